-- The places of the tasks on each list, as tables always keep them. No contract above `farm_rows` speaks of these.
use Rattle.std.specs.Prelude.{◌≡◌, ◌==◌, ℕ, ◌+◌, ◌-◌, true, false, Bool, List, [], ◌∷◌, ◌++◌, length, slice_get, bytes_eq, MatchOption, if◌then◌else◌}
use Rattle.std.specs.List.{list_any, list_all, position}
use Rattle.std.specs.Option.{ForSome, option_map_or}
use Rattle.run_states.specs.Rows.{Row}
use Rattle.task_index.specs.declared.lists.TaskList.TheVariants.{Group, Dependants}
use Rattle.task_index.specs.Listing.{places_of}
use Rattle.task_index.specs.Members.{in_group}
use Rattle.task_index.specs.Dependencies.{ids_of, depends_on_these}

-- the places that are kept with a task: those of the tasks that wait for it, and those of its group, where it is the first of that
pub record KeptPlaces : Type 0 where
  pub dependants : List ℕ
  pub members : List ℕ

-- none
abbrev pub no_places : KeptPlaces
no_places = record { dependants = []; members = [] }

-- the places of the tasks that wait for the one at a place
abbrev pub dependants_at : ℕ → List KeptPlaces → List ℕ
dependants_at place lists = option_map_or (λ kept. kept.dependants) (slice_get lists place) []

-- the places of the group whose first is at a place
abbrev pub members_at : ℕ → List KeptPlaces → List ℕ
members_at place lists = option_map_or (λ kept. kept.members) (slice_get lists place) []

-- a place is the last of these
abbrev pub is_last : ℕ → List ℕ → Bool
is_last place places = option_map_or (λ last. last == place) (slice_get places (length places - 1)) false

-- these places, with one behind them that is not their last already
abbrev pub with_place : ℕ → List ℕ → List ℕ
with_place place places = if is_last place places then places else places ++ place ∷ []

-- what is kept with the task at a place
abbrev pub kept_at : ℕ → List KeptPlaces → KeptPlaces
kept_at place lists = record { dependants = dependants_at place lists; members = members_at place lists }

-- what is kept with the task at one place has become this, and the rest is as it was
pub record AreNowAt (at : ℕ) (kept : KeptPlaces) (old new : List KeptPlaces) : Type 0 where
  pub long : length new ≡ length old
  pub dependants : (place : ℕ) → dependants_at place new ≡ (if place == at then kept.dependants else dependants_at place old)
  pub members : (place : ℕ) → members_at place new ≡ (if place == at then kept.members else members_at place old)

-- where the first task of a group stands, or behind all tasks, where none is of it
abbrev pub IsFirst : List ℕ → List Row → ℕ → Type 0
IsFirst group rows first = MatchOption (position (in_group group) rows) (first ≡ length rows) (λ place. first ≡ place)

-- with the first task of each group are kept the places of the group
abbrev pub AreGrouped : List KeptPlaces → List Row → Type 0
AreGrouped lists rows = (group : List ℕ) → ForSome (position (in_group group) rows) (λ place. members_at place lists ≡ places_of (Group group) rows)

-- with each task are kept the places of those that wait for it, and each task waits for some that stand
pub record AreWaited (lists : List KeptPlaces) (rows : List Row) : Type 0 where
  pub long : length lists ≡ length rows
  pub stand : list_all (depends_on_these (ids_of rows)) rows ≡ true
  pub places : (place : ℕ) → ForSome (slice_get rows place) (λ row. dependants_at place lists ≡ places_of (Dependants row.id) rows)

-- the same, where one task comes behind these, and is known to wait for some
pub record AreWaitedSoFar (lists : List KeptPlaces) (rows : List Row) (row : Row) (named : List (List ℕ)) : Type 0 where
  pub long : length lists ≡ length rows + 1
  pub places : (place : ℕ) → ForSome (slice_get (rows ++ row ∷ []) place) (λ other. dependants_at place lists
      ≡ places_of (Dependants other.id) rows ++ (if list_any (λ id. bytes_eq id other.id) named then length rows ∷ [] else []))

-- the places on each list of these tasks
pub record AreListed (lists : List KeptPlaces) (rows : List Row) : Type 0 where
  pub waited : AreWaited lists rows
  pub grouped : AreGrouped lists rows
