-- What a task serves those that wait for it (the queue service of the Taskcluster reference: `requires` of a definition).
use Rattle.std.specs.Prelude.{Bool, true, false, ◌||◌}
use Rattle.std.specs.List.{list_any}
use Rattle.task_types.specs.declared.choices.Requires.{Requires}
use Rattle.task_types.specs.declared.choices.Requires.TheVariants.{AllCompleted, AllResolved}
use Rattle.run_states.specs.declared.reasons.ReasonCreated.{ReasonCreated}
use Rattle.run_states.specs.declared.reasons.ReasonCreated.TheVariants.{Rerun}
use Rattle.run_states.specs.declared.reasons.ReasonResolved.TheVariants.{Completed}
use Rattle.run_states.specs.declared.run.Run.{Run}
use Rattle.run_states.specs.Runs.{ended_for}
use Rattle.run_states.specs.Rows.{Row, is_resolved}

-- the run completed
abbrev pub is_completed : Run → Bool
is_completed run = ended_for Completed run

-- a run that is made for this reason is made by a rerun
abbrev pub is_by_rerun : ReasonCreated → Bool
is_by_rerun Rerun = true
is_by_rerun _ = false

-- the run was made by a rerun
abbrev pub is_rerun : Run → Bool
is_rerun run = is_by_rerun run.created

-- a run of the task completed, whatever came behind it
abbrev pub was_completed : Row → Bool
was_completed row = list_any is_completed row.runs

-- the task is resolved, or it was and was run again
abbrev pub was_resolved : Row → Bool
was_resolved row = is_resolved row || list_any is_rerun row.runs

-- the task serves one that waits for it and requires this
abbrev pub serves : Requires → Row → Bool
serves AllCompleted row = was_completed row
serves AllResolved row = was_resolved row
