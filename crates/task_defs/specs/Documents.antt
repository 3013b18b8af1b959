-- What a document is to a reader of definitions (RFC 8259).
use Rattle.std.specs.Prelude.{ℕ, List, [], ◌∷◌, Option, Some, None, option_map}
use Rattle.std.specs.Borrow.{Bor}
use Rattle.serde_json.specs.Data.{depth}
use Rattle.farm_text.specs.Document.{Document, text, array, Items, no_items, item, data_of}
use Rattle.farm_text.specs.Doc.{document}
use Rattle.farm_text.specs.declared.doc.Doc.{Doc}

-- how many lists and maps are open at the deepest place of a document: none in a text or a number, one in `[]`
abbrev pub nesting : Document → ℕ
nesting d = depth (data_of d)

-- the documents of a list
abbrev pub list_of : Items → List Document
list_of no_items = []
list_of (item d ds) = d ∷ list_of ds

-- the text of a document that is one
abbrev pub text_of : Document → Option (List ℕ)
text_of (text t) = Some t
text_of _ = None

-- the items of a document that is a list
abbrev pub items_in : Document → Option Items
items_in (array ds) = Some ds
items_in _ = None

-- the document that a borrowed `Doc` stands for, if there is one
abbrev pub seen : Option (Bor Doc) → Option Document
seen value = option_map (λ d. document d.now) value
