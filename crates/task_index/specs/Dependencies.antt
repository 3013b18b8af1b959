-- Which tasks wait for which, by their places, as a graph keeps it. No contract above `farm_rows` speaks of these.
use Rattle.std.specs.Prelude.{◌≡◌, ℕ, ◌+◌, true, ◌++◌, Bool, List, [], ◌∷◌, Option, Some, None, map, length, slice_get, bytes_eq}
use Rattle.std.specs.List.{list_any, list_all, position_or_len}
use Rattle.std.specs.Option.{ForSome}
use Rattle.task_types.specs.declared.choices.Requires.{Requires}
use Rattle.task_types.specs.declared.choices.Requires.TheVariants.{AllCompleted, AllResolved}
use Rattle.run_states.specs.Rows.{Row, is_unscheduled}
use Rattle.run_states.specs.Serving.{was_completed, was_resolved}
use Rattle.dep_graph.specs.declared.node.Progress.{Progress}
use Rattle.dep_graph.specs.declared.node.Requires.{Requires as Needs}
use Rattle.dep_graph.specs.declared.node.Requires.TheVariants as needs
use Rattle.dep_graph.specs.Nodes.{Task, Adding, TaskGraph, moved}

-- what a task requires of those that it depends on, in the words of a graph
abbrev pub needs_of : Requires → Needs
needs_of AllCompleted = needs.AllCompleted
needs_of AllResolved = needs.AllResolved

-- how far a task has come
abbrev pub progress_of : Row → Progress
progress_of row =
    record { unscheduled = is_unscheduled row; was_completed = was_completed row; was_resolved = was_resolved row }

-- the ids of some tasks
abbrev pub ids_of : List Row → List (List ℕ)
ids_of rows = map (λ row. row.id) rows

-- the place of an id among these, and behind the last where it is none of them
abbrev pub place_in : List (List ℕ) → List ℕ → ℕ
place_in ids id = position_or_len (λ other. bytes_eq other id) ids

-- the places of some ids among these
abbrev pub places_in : List (List ℕ) → List (List ℕ) → List ℕ
places_in ids named = map (place_in ids) named

-- the task at a place, among tasks with these ids, as a graph keeps it: the place is its row
abbrev pub task_at : List (List ℕ) → ℕ → Row → Task
task_at ids place row = record {
  row = place;
  needs = needs_of row.definition.requires_;
  dependencies = places_in ids row.definition.dependencies;
  progress = progress_of row;
}

-- the tasks from a place on, among tasks with these ids
abbrev pub tasks_from : List (List ℕ) → ℕ → List Row → List Task
tasks_from ids place [] = []
tasks_from ids place (row ∷ rows) = task_at ids place row ∷ tasks_from ids (place + 1) rows

-- each task that this one depends on is one of those with these ids
abbrev pub depends_on_these : List (List ℕ) → Row → Bool
depends_on_these ids row = list_all (λ id. list_any (λ other. bytes_eq other id) ids) row.definition.dependencies

-- a graph has these tasks, in their order, and each task that one depends on is among them
pub record AreDependencies (tasks : List Task) (rows : List Row) : Type 0 where
  pub all : tasks ≡ tasks_from (ids_of rows) 0 rows
  pub stand : list_all (depends_on_these (ids_of rows)) rows ≡ true

-- the same, once the graph is told how far the task at a place has come
abbrev pub AreDependenciesBut : ℕ → List Task → List Row → Type 0
AreDependenciesBut place tasks rows =
    ForSome (slice_get rows place) (λ row. AreDependencies (moved place (progress_of row) tasks) rows)

-- the same, where there is a graph
abbrev pub MayBeDependencies : Option TaskGraph → List Row → Type 0
MayBeDependencies None rows = Unit {0}
MayBeDependencies (Some graph) rows = AreDependencies graph.tasks rows

-- and once the graph is told how far the task at a place has come
abbrev pub MayBeDependenciesBut : ℕ → Option TaskGraph → List Row → Type 0
MayBeDependenciesBut place None rows = Unit {0}
MayBeDependenciesBut place (Some graph) rows = AreDependenciesBut place graph.tasks rows

-- a task with an id comes behind the others, and depends on these: as a graph adds it
abbrev pub adding_of : List Row → List ℕ → List (List ℕ) → Adding
adding_of rows id named = record { row = length rows; dependencies = places_in (ids_of rows ++ id ∷ []) named }
