-- The document that a `Doc` stands for.
use Rattle.std.specs.Prelude.{ℕ, List, map, String, string_bytes}
use Rattle.std.specs.declared.alloc.Global.{Global}
use Rattle.farm_text.specs.Document.{Document, null, boolean, whole, text, array, object, items_of, members_of}
use Rattle.farm_text.specs.declared.doc.Doc.{Doc, fold-Doc}
use Rattle.farm_text.specs.declared.doc.Doc.TheOpen.{Doc-F}

-- keys as lists of bytes, each with what stands at it
abbrev pub keyed : {A : Type 0} → List (String Global × A) → List (List ℕ × A)
keyed ms = map (λ m. (string_bytes m.0, m.1)) ms

-- one level, with each document inside already seen
abbrev pub document_step : Doc-F Document → Document
document_step Doc-F.Null = null
document_step (Doc-F.Bool b) = boolean b
document_step (Doc-F.Int z) = whole z
document_step (Doc-F.Text t) = text t
document_step (Doc-F.List v) = array (items_of v.items)
document_step (Doc-F.Map m) = object (members_of (keyed m.entries))

-- what a `Doc` stands for
abbrev pub document : Doc → Document
document = fold-Doc Document document_step

-- what a list of them stands for
abbrev pub documents : List Doc → List Document
documents ds = map document ds

-- what the entries of a map stand for
abbrev pub entries_of : List (String Global × Doc) → List (List ℕ × Document)
entries_of ms = keyed (map (λ m. (m.0, document m.1)) ms)
