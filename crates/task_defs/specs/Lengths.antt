-- Bounds of how long a document's text is, for private clauses.
use Rattle.std.specs.Prelude.{ℕ, ◌≤◌, List, length}

-- a number within the longest definition's length is at least this size
abbrev pub Covers : ℕ → ℕ → Type 0
Covers most size = most ≤ 8388608 → size ≤ most

-- a number within the longest definition's length bounds a text's
abbrev pub Bounds : ℕ → List ℕ → Type 0
Bounds most text = Covers most (length text)
