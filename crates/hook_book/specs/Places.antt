-- The places of hooks by their groups and ids; for private clauses.
use Rattle.std.specs.Prelude.{◌≡◌, ℕ, Bool, List, String, Option, Some, None, option_and_then, slice_get, if◌then◌else◌}
use Rattle.std.specs.Global.{Global}
use Rattle.std.specs.BTreeMap.{BTreeMap, get_by_text}
use Rattle.hook_book.specs.Hooks.{HookData, hook_named}

-- for each group the place of each id
abbrev pub Places : Type 0
Places = BTreeMap (String Global) (BTreeMap (String Global) ℕ)

-- the place that is kept of an id of a group
abbrev pub place_in : Places → List ℕ → List ℕ → Option ℕ
place_in places group id = option_and_then (λ ids. get_by_text ids id) (get_by_text places group)

-- the place is that of the first hook of this name, and where there is none no hook has the name
abbrev pub IsPlaceOf : List HookData → List ℕ → List ℕ → Option ℕ → Type 0
IsPlaceOf hooks group id None = hook_named group id hooks ≡ None
IsPlaceOf hooks group id (Some place) =
    (hook : HookData) × (slice_get hooks place ≡ Some hook) × (hook_named group id hooks ≡ Some hook)

-- such a place is kept of each name
abbrev pub HasPlaces : List HookData → Places → Type 0
HasPlaces hooks places = (group id : List ℕ) → IsPlaceOf hooks group id (place_in places group id)

-- the first place of a name: the one that was kept, else this one, where the name is that of a hook there
abbrev pub first_place : Option ℕ → Bool → ℕ → Option ℕ
first_place (Some kept) named place = Some kept
first_place None named place = if named then Some place else None
