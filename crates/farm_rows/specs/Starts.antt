-- The runs that are made as their tasks are scheduled.
use Rattle.std.specs.Prelude.{ℕ, ◌+◌, nat_le, Bool, true, false, ◌&&◌, List, [], ◌∷◌, ◌++◌, map, count_by, if◌then◌else◌}
use Rattle.std.specs.List.{list_all}
use Rattle.run_states.specs.declared.reasons.ReasonCreated.{ReasonCreated}
use Rattle.run_states.specs.declared.reasons.ReasonCreated.TheVariants.{Scheduled}
use Rattle.run_states.specs.Rows.{Row, is_unscheduled}
use Rattle.task_types.specs.declared.change.Kind.{Kind}
use Rattle.task_types.specs.declared.change.Kind.TheVariants.{Tick, Create, Schedule}
use Rattle.task_index.specs.Changes.{has_id}

-- a run that is made for this reason is made as its task is scheduled
abbrev pub is_start : ReasonCreated → Bool
is_start Scheduled = true
is_start _ = false

-- how many runs of a task were made as it was scheduled
abbrev pub starts : Row → ℕ
starts row = count_by (λ run. is_start run.created) row.runs

-- how many each of the tasks has, and one more where it passes a test
abbrev pub more_starts : (Row → Bool) → List Row → List ℕ
more_starts test rows = map (λ row. if test row then starts row + 1 else starts row) rows

-- no task was scheduled twice
abbrev pub starts_once : List Row → Bool
starts_once rows = list_all (λ row. nat_le (starts row) 1) rows

-- a change of this kind schedules a task by itself, or lets the tasks settle by itself
abbrev pub may_start : Kind → Bool
may_start (Schedule id) = true
may_start Tick = true
may_start _ = false

-- a schedule of the task with this id starts the task: it has the id, and is unscheduled
abbrev pub schedules : List ℕ → Row → Bool
schedules id row = has_id id row && is_unscheduled row

-- How many each task has by a change of this kind, before they settle: one more where the change schedules it, none where the change creates
-- it, behind the others, and else as many as it had. Of a tick it says nothing.
abbrev pub starts_by : Kind → List Row → List ℕ
starts_by (Schedule id) rows = more_starts (schedules id) rows
starts_by (Create creation) rows = map starts rows ++ 0 ∷ []
starts_by kind rows = map starts rows
