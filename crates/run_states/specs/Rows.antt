-- The row of a task, how it is scheduled, and how it ends without a worker (the queue service of the Taskcluster reference).
use Rattle.std.specs.Prelude.{ℕ, min, nat_le, Bool, false, List, [], ◌∷◌, ◌++◌, Option, Some, None, option_map, option_and_then, is_none, is_some, slice_get, if◌then◌else◌}
use Rattle.std.specs.Option.{option_map_or, option_to_list}
use Rattle.std.specs.List.{last_or}
use Rattle.task_types.specs.declared.task_def.TaskDef.{TaskDef}
use Rattle.run_states.specs.declared.run.Run.{Run}
use Rattle.run_states.specs.declared.reasons.ReasonCreated.TheVariants.{Scheduled}
use Rattle.run_states.specs.declared.reasons.ReasonResolved.{ReasonResolved}
use Rattle.run_states.specs.declared.reasons.ReasonResolved.TheVariants.{DeadlineExceeded}
use Rattle.run_states.specs.declared.reasons.RunState.{RunState}
use Rattle.run_states.specs.Runs.{run_state, is_pending_run, is_running_run, run_due, pending_run, exception_run, ended, change_last}

-- a task: its id, its definition, how many retries it has left, and its runs, the first one first
pub record Row : Type 0 where
  pub id : List ℕ
  pub definition : TaskDef
  pub retries_left : ℕ
  pub runs : List Run

-- a task as it is created: without runs, with all the retries of its definition (which are at most 49 in each that is read)
abbrev pub new_row : List ℕ → TaskDef → Row
new_row id definition = record { id = id; definition = definition; retries_left = min definition.retries 49; runs = [] }

-- the last run, if there is one
abbrev pub last_run : Row → Option Run
last_run row = last_or None row.runs

-- the state of a task: that of its last run, and none where it is unscheduled
abbrev pub row_state : Row → Option RunState
row_state row = option_map run_state (last_run row)

-- a task without runs is unscheduled
abbrev pub is_unscheduled : Row → Bool
is_unscheduled row = is_none (last_run row)

-- there is a run, and it has ended
abbrev pub has_ended : Option Run → Bool
has_ended None = false
has_ended (Some run) = is_some run.outcome

-- a task is resolved where its last run has ended
abbrev pub is_resolved : Row → Bool
is_resolved row = has_ended (last_run row)

-- a task is pending where its last run waits for a worker
abbrev pub is_pending : Row → Bool
is_pending row = option_map_or is_pending_run (last_run row) false

-- the run of this number is there and running
abbrev pub is_running_at : ℕ → Row → Bool
is_running_at number row = option_map_or is_running_run (slice_get row.runs number) false

-- the moment at which the claim of a task falls due: that of its last run, where it is running
abbrev pub claim_due : Row → Option ℕ
claim_due row = option_and_then run_due (last_run row)

-- the claim of a task falls due at this moment or did so before
abbrev pub loses_claim : ℕ → Row → Bool
loses_claim at row = option_map_or (λ due. nat_le due at) (claim_due row) false

-- the moments at which something of a task falls due: its deadline, while it is not resolved, and the end of its claim, while it is running
abbrev pub due_moments : Row → List ℕ
due_moments row = (if is_resolved row then [] else row.definition.deadline ∷ []) ++ option_to_list (claim_due row)

-- the first pending run, made at this moment with this number
abbrev pub first_run : ℕ → ℕ → List Run → List Run
first_run number at [] = pending_run Scheduled number at ∷ []
first_run number at (run ∷ runs) = run ∷ runs

-- a task is scheduled: one that is unscheduled gets its first pending run, and any other stays
abbrev pub scheduled : ℕ → ℕ → Row → Row
scheduled number at row = record row { runs = first_run number at row.runs }

-- the runs after the task ended without a worker: the last ends, and where there is none, one is made that has ended
abbrev pub runs_finished : ReasonResolved → ℕ → List Run → List Run
runs_finished reason at [] = exception_run reason at ∷ []
runs_finished reason at (run ∷ runs) = change_last (ended reason at) (run ∷ runs)

-- a task ends without a worker: it is resolved for this reason, if it was not resolved
abbrev pub finished : ReasonResolved → ℕ → Row → Row
finished reason at row = if is_resolved row then row else record row { runs = runs_finished reason at row.runs }

-- the deadline of a task came
abbrev pub exceeded : ℕ → Row → Row
exceeded at row = finished DeadlineExceeded at row
