-- Rows that are held, by their numbers from 0: a list with what is held of each row, and nothing where the row is not held.
use Rattle.std.specs.Prelude.{ℕ, ◌+◌, ◌-◌, List, [], ◌∷◌, ◌++◌, length, replicate, Option, Some, None, is_some}
use Rattle.std.specs.List.{count_by}

-- how many of the rows are held
abbrev pub held : {A : Type 0} → List (Option A) → ℕ
held rows = count_by is_some rows

-- the rows, and those up to a number: the further ones are not held
abbrev pub up_to : {A : Type 0} → ℕ → List (Option A) → List (Option A)
up_to below rows = rows ++ replicate (below - length rows) None

-- what is held, each with its row, in the order of the rows, of which the first is this one
abbrev pub held_from : {A : Type 0} → ℕ → List (Option A) → List (A × ℕ)
held_from row [] = []
held_from row (None ∷ rows) = held_from (row + 1) rows
held_from row (Some x ∷ rows) = (x, row) ∷ held_from (row + 1) rows
