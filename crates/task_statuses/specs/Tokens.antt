-- The tokens of documents, as the writer of crate json appends them.
use Rattle.std.specs.Prelude.{ℕ, List, [], ◌∷◌, ◌++◌}
use Rattle.json.specs.Token.{Token, key}
use Rattle.json.specs.Tree.{json_tokens, items_tokens}
use Rattle.serde_json.specs.Written.{outline, items_outline}
use Rattle.farm_text.specs.Document.{Document, Items, data_of, items_data}

-- the tokens of a document
abbrev pub tokens_of : Document → List Token
tokens_of d = json_tokens (outline (data_of d))

-- the tokens of the items of an array, with the closing bracket
abbrev pub tokens_of_items : Items → List Token
tokens_of_items ds = items_tokens (items_outline (items_data ds))

-- the tokens of members, each a key with its document
abbrev pub tokens_of_members : List (List ℕ × Document) → List Token
tokens_of_members [] = []
tokens_of_members (m ∷ ms) = key m.0 ∷ (tokens_of m.1 ++ tokens_of_members ms)
