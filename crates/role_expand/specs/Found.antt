-- The scopes that are found so far, as a list and as a set.
use Rattle.std.specs.Prelude.{ℕ, ◌↔◌, List, Contains, IsTrue}
use Rattle.std.specs.BTreeSet.{BTreeSet, contains}
use Rattle.std.specs.Cmp.Lexicographic.{slice_cmp}
use Rattle.std.specs.Ordering.{nat_cmp}

-- the set has the scopes of the list
abbrev pub HasSameScopes : BTreeSet (List ℕ) → List (List ℕ) → Type 0
HasSameScopes set list = (s : List ℕ) → IsTrue (contains (slice_cmp nat_cmp) set s) ↔ Contains list s
