-- Which tasks are ready (the queue service of the Taskcluster reference). What came before a task was created counts too (own).
use Rattle.std.specs.Prelude.{ℕ, min, Bool, ◌&&◌, ◌==◌, List, filter, Option}
use Rattle.std.specs.List.{list_any, list_all, reduce}
use Rattle.dep_graph.specs.declared.node.Progress.{Progress}
use Rattle.dep_graph.specs.declared.node.Requires.{Requires}
use Rattle.dep_graph.specs.declared.node.Requires.TheVariants.{AllCompleted, AllResolved}
use Rattle.dep_graph.specs.Nodes.{Task, rows_of}

-- a task that has come so far meets what is required
abbrev pub serves : Requires → Progress → Bool
serves AllCompleted progress = progress.was_completed
serves AllResolved progress = progress.was_resolved

-- the task with this row meets what is required
abbrev pub row_serves : List Task → Requires → ℕ → Bool
row_serves tasks needs row = list_any (λ task. (task.row == row) && serves needs task.progress) tasks

-- each of these tasks meets what is required
abbrev pub all_serve : List Task → Requires → List ℕ → Bool
all_serve tasks needs rows = list_all (row_serves tasks needs) rows

-- a task is ready: it is unscheduled, and each task that it depends on meets what it requires
abbrev pub is_ready : List Task → Task → Bool
is_ready tasks task = task.progress.unscheduled && all_serve tasks task.needs task.dependencies

-- the task with this row is ready
abbrev pub row_is_ready : List Task → ℕ → Bool
row_is_ready tasks row = list_any (λ task. (task.row == row) && is_ready tasks task) tasks

-- the rows of the tasks that are ready
abbrev pub ready_rows : List Task → List ℕ
ready_rows tasks = rows_of (filter (is_ready tasks) tasks)

-- the least of them
abbrev pub ready_row : List Task → Option ℕ
ready_row tasks = reduce min (ready_rows tasks)
