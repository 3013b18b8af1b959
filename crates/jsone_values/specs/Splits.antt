-- A text that is cut at separators (JSON-e, "Builtins").
use Rattle.std.specs.Prelude.{◌≡◌, ℕ, ◌<◌, ◌≤◌, List, [], ◌∷◌, ◌++◌, length, map, Result, Ok, Err}
use Rattle.std.specs.Char.{encode_utf8}
use Rattle.std.specs.Str.{chars}
use Rattle.std.specs.Str.Pattern.{LacksTextAt}
use Rattle.farm_text.specs.Document.{Document, text, array, items_of}
use Rattle.jsone_values.specs.declared.faults.Fault.{Fault}
use Rattle.jsone_values.specs.declared.faults.Fault.TheVariants.{WrongKind}

-- the bytes are a piece, then the separator, which stands nowhere before, and then the rest
pub record IsFirstCut (sep bs piece rest : List ℕ) : Type 0 where
  pub spelled : bs ≡ piece ++ (sep ++ rest)
  pub first : (i : ℕ) → i < length piece → LacksTextAt sep bs i

-- the pieces between the separators, each of which is the first one in what is left
abbrev pub IsSplit : List ℕ → List ℕ → List (List ℕ) → Type 0
IsSplit sep bs [] = ⊥
IsSplit sep bs (piece ∷ []) = (bs ≡ piece) × ((i : ℕ) → i ≤ length bs → LacksTextAt sep bs i)
IsSplit sep bs (piece ∷ next ∷ pieces) = (rest : List ℕ) × IsFirstCut sep bs piece rest × IsSplit sep rest (next ∷ pieces)

-- `split`; by an empty separator into the characters
abbrev pub IsPieces : Document → Document → Result Document Fault → Type 0
IsPieces (text bs) (text []) r = r ≡ Ok (array (items_of (map (λ c. text (encode_utf8 c)) (chars bs))))
IsPieces (text bs) (text (c ∷ sep)) r = (pieces : List (List ℕ)) × IsSplit (c ∷ sep) bs pieces × (r ≡ Ok (array (items_of (map text pieces))))
IsPieces _ _ r = r ≡ Err WrongKind
