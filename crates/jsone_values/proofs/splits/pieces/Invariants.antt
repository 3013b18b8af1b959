use Rattle.std.proofs.Common.{◌≡◌, ℕ, List, ◌∷◌, ◌++◌, length, map}
use denote.Shadow.{shadow}
use denote.Text.{Utf8}
use Rattle.farm_text.specs.Document.{text}
use Rattle.farm_text.specs.Doc.{documents}
use Rattle.jsone_values.specs.Splits.{IsSplit}
use Rattle.jsone_values.proofs.splits.pieces.Given as goal

-- what is left, cut, makes with these pieces the whole, cut
abbrev pub invariant-loop-piece : goal.invariant-loop-piece
invariant-loop-piece l =
    (front : List (List ℕ)) × (documents l.pieces.items ≡ map text front) × ((q : List ℕ) (qs : List (List ℕ)) → IsSplit l.separator l.rest (q ∷ qs) → IsSplit l.separator l.text (front ++ (q ∷ qs))) × shadow (Utf8 l.rest)

abbrev pub decreases-loop-piece : goal.decreases-loop-piece
decreases-loop-piece l = length l.rest
