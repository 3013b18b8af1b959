-- The ids of rows that were read, as a set in order.
use Rattle.std.specs.Prelude.{◌≡◌, ℕ, List, String}
use Rattle.std.specs.Global.{Global}
use Rattle.std.specs.List.{list_any}
use Rattle.std.specs.Str.{bytes_eq}
use Rattle.std.specs.BTreeSet.{BTreeSet, contains_text}

-- the set has an id exactly where it is one of these
abbrev pub AreIdsOf : List (List ℕ) → BTreeSet (String Global) → Type 0
AreIdsOf used ids = (id : List ℕ) → contains_text ids id ≡ list_any (λ other. bytes_eq id other) used
