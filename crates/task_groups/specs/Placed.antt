-- The places that are kept of the groups' ids. The contracts of private functions alone speak of these.
use Rattle.std.specs.Prelude.{◌≡◌, ℕ, List, map, Option, Some, slice_get}
use Rattle.std.specs.Ordering.{nat_cmp}
use Rattle.std.specs.Cmp.Lexicographic.{slice_cmp}
use Rattle.std.specs.BTreeMap.{BTreeMap, get}
use Rattle.task_groups.specs.Members.{TaskGroup}

-- a place for each of some ids
abbrev pub PlaceMap : Type 0
PlaceMap = BTreeMap (List ℕ) ℕ

-- the place that is kept of an id
abbrev pub kept_of : PlaceMap → List ℕ → Option ℕ
kept_of places id = get (slice_cmp nat_cmp) places id

-- the ids of groups
abbrev pub ids_of : List TaskGroup → List (List ℕ)
ids_of groups = map (λ group. group.id) groups

-- of each group's id its place is kept, so no two groups have one id; nothing is said of other ids
pub record ArePlaced (places : PlaceMap) (groups : List TaskGroup) : Type 0 where
  pub at : (place : ℕ) (id : List ℕ) → slice_get (ids_of groups) place ≡ Some id → kept_of places id ≡ Some place
