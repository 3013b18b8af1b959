-- The places that are kept of the tasks' ids. The contracts of private functions alone speak of these.
use Rattle.std.specs.Prelude.{◌≡◌, ℕ, ◌==◌, Bool, true, false, List, Option, Some, None, map, slice_get}
use Rattle.std.specs.Ordering.{nat_cmp}
use Rattle.std.specs.Cmp.Lexicographic.{slice_cmp}
use Rattle.std.specs.BTreeMap.{BTreeMap, get}
use Rattle.run_states.specs.Rows.{Row}

-- a place for each of some ids
abbrev pub PlaceMap : Type 0
PlaceMap = BTreeMap (List ℕ) ℕ

-- the place that is kept of an id
abbrev pub kept_of : PlaceMap → List ℕ → Option ℕ
kept_of places id = get (slice_cmp nat_cmp) places id

-- of each of these ids its place is kept; nothing is said of others
pub record AreKept (places : PlaceMap) (ids : List (List ℕ)) : Type 0 where
  pub at : (place : ℕ) (id : List ℕ) → slice_get ids place ≡ Some id → kept_of places id ≡ Some place

-- the same, where there are places
abbrev pub MayBeKept : Option PlaceMap → List (List ℕ) → Type 0
MayBeKept None ids = Unit {0}
MayBeKept (Some places) ids = AreKept places ids

-- of each task's id its place is kept, where there are places
abbrev pub ArePlaced : Option PlaceMap → List Row → Type 0
ArePlaced places rows = MayBeKept places (map (λ row. row.id) rows)

-- a place that is kept is this one
abbrev pub holds_place : Option ℕ → ℕ → Bool
holds_place None place = false
holds_place (Some kept) place = kept == place

-- this place is noted of an id, where there are places
abbrev pub is_noted : Option PlaceMap → List ℕ → ℕ → Bool
is_noted None id place = true
is_noted (Some places) id place = holds_place (kept_of places id) place
