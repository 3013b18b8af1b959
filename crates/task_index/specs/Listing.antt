-- Where the tasks of a list stand, counted from 0 in the order of their creation (own; the lists are those of the Taskcluster reference).
use Rattle.std.specs.Prelude.{ℕ, ◌+◌, Bool, List, [], ◌∷◌, filter, nat_le, if◌then◌else◌}
use Rattle.run_states.specs.Rows.{Row}
use Rattle.task_index.specs.declared.lists.TaskList.{TaskList}
use Rattle.task_index.specs.Lists.{is_listed}

-- the places of those tasks that pass a test, where the first of all has this place
abbrev pub places_from : (Row → Bool) → ℕ → List Row → List ℕ
places_from test place [] = []
places_from test place (row ∷ rows) = if test row then place ∷ places_from test (place + 1) rows else places_from test (place + 1) rows

-- the places of the tasks of a list
abbrev pub places_of : TaskList → List Row → List ℕ
places_of list rows = places_from (is_listed list) 0 rows

-- the places from this one on (the contracts of private functions alone speak of it)
abbrev pub starting_at : ℕ → List ℕ → List ℕ
starting_at start places = filter (λ place. nat_le start place) places
