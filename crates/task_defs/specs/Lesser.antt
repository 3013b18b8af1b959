-- The lesser of two keys: what a step of the reader tells.
use Rattle.std.specs.Prelude.{ℕ, List, Option, Some, None, cond}
use Rattle.std.specs.Cmp.Lexicographic.{slice_cmp}
use Rattle.std.specs.Ordering.{nat_cmp, is_lt}

-- the second if it is less, else the first
abbrev pub lesser : Option (List ℕ) → Option (List ℕ) → Option (List ℕ)
lesser None other = other
lesser (Some key) None = Some key
lesser (Some key) (Some other) = cond (is_lt (slice_cmp nat_cmp other key)) (Some other) (Some key)
