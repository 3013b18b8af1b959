-- The tasks of a graph, and how it changes (the queue service of the Taskcluster reference: a task names the tasks that it depends on).
use Rattle.std.specs.Prelude.{ℕ, Bool, true, false, not, ◌&&◌, ◌||◌, ◌==◌, List, [], ◌∷◌, ◌++◌, map, filter, Option, None, if◌then◌else◌}
use Rattle.std.specs.List.{list_any, list_all}
use Rattle.dep_graph.specs.declared.node.Progress.{Progress}
use Rattle.dep_graph.specs.declared.node.Requires.{Requires}

-- a task: its row, what it requires of the tasks that it depends on, their rows, and how far it has come
pub record Task : Type 0 where
  pub row : ℕ
  pub needs : Requires
  pub dependencies : List ℕ
  pub progress : Progress

-- a task with this row and these dependencies is added
pub record Adding : Type 0 where
  pub row : ℕ
  pub dependencies : List ℕ

-- the tasks in the order in which they were added, and the one addition for which there is room
pub record TaskGraph : Type 0 where
  pub tasks : List Task
  pub room : Option Adding

-- no task, and no room
abbrev pub no_graph : TaskGraph
no_graph = record { tasks = []; room = None }

-- how far a task has come that was just created
abbrev pub just_created : Progress
just_created = record { unscheduled = true; was_completed = false; was_resolved = false }

-- the number stands in the list
abbrev pub is_in : List ℕ → ℕ → Bool
is_in rows row = list_any (λ x. x == row) rows

-- the rows of the tasks
abbrev pub rows_of : List Task → List ℕ
rows_of tasks = map (λ task. task.row) tasks

-- the rows of the tasks that depend on this one, in the order in which they were added
abbrev pub dependants_of : List Task → ℕ → List ℕ
dependants_of tasks row = rows_of (filter (λ task. is_in task.dependencies row) tasks)

-- a task that is added comes last
abbrev pub added : ℕ → Requires → List ℕ → List Task → List Task
added row needs dependencies tasks =
    tasks ++ (record { row = row; needs = needs; dependencies = dependencies; progress = just_created }) ∷ []

-- one task comes as far as this, and the others stay
abbrev pub moved : ℕ → Progress → List Task → List Task
moved row progress tasks = map (λ (task : Task). if task.row == row then record task { progress = progress } else task) tasks

-- no number stands twice in the list
abbrev pub all_distinct : List ℕ → Bool
all_distinct [] = true
all_distinct (row ∷ rows) = not (is_in rows row) && all_distinct rows

-- a task with this row and these dependencies may be added: the row is new, and each that it depends on stands, or is the task itself, and is named once
abbrev pub may_be_added : List Task → ℕ → List ℕ → Bool
may_be_added tasks row dependencies =
    not (is_in (rows_of tasks) row) && (all_distinct dependencies && list_all (λ held. (held == row) || is_in (rows_of tasks) held) dependencies)
