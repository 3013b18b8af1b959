-- Why runs are made and why they end, with the names of these (the queue service of the Taskcluster reference).
use Rattle.std.specs.Prelude.{ℕ, List, codes, Option, Some, None}
use Rattle.run_states.specs.declared.reasons.ReasonCreated.{ReasonCreated}
use Rattle.run_states.specs.declared.reasons.ReasonCreated.TheVariants as made
use Rattle.run_states.specs.declared.reasons.ReasonResolved.{ReasonResolved}
use Rattle.run_states.specs.declared.reasons.ReasonResolved.TheVariants as reasons
use Rattle.run_states.specs.declared.reasons.RunState.{RunState}
use Rattle.run_states.specs.declared.reasons.RunState.TheVariants as states

-- the name of a reason for which a run is made
abbrev pub created_name : ReasonCreated → List ℕ
created_name made.Scheduled = codes "scheduled"
created_name made.Retry = codes "retry"
created_name made.TaskRetry = codes "task-retry"
created_name made.Rerun = codes "rerun"
created_name made.Exception = codes "exception"

-- the name of a reason for which a run ends
abbrev pub resolved_name : ReasonResolved → List ℕ
resolved_name reasons.Completed = codes "completed"
resolved_name reasons.Failed = codes "failed"
resolved_name reasons.DeadlineExceeded = codes "deadline-exceeded"
resolved_name reasons.Canceled = codes "canceled"
resolved_name reasons.Superseded = codes "superseded"
resolved_name reasons.ClaimExpired = codes "claim-expired"
resolved_name reasons.WorkerShutdown = codes "worker-shutdown"
resolved_name reasons.MalformedPayload = codes "malformed-payload"
resolved_name reasons.ResourceUnavailable = codes "resource-unavailable"
resolved_name reasons.InternalError = codes "internal-error"
resolved_name reasons.IntermittentTask = codes "intermittent-task"

-- the name of a state
abbrev pub state_name : RunState → List ℕ
state_name states.Pending = codes "pending"
state_name states.Running = codes "running"
state_name states.Completed = codes "completed"
state_name states.Failed = codes "failed"
state_name states.Exception = codes "exception"

-- the state of a run that ended for this reason
abbrev pub state_for : ReasonResolved → RunState
state_for reasons.Completed = states.Completed
state_for reasons.Failed = states.Failed
state_for _ = states.Exception

-- which reasons are followed by a new run, while a retry is left, and for which reason that one is made
abbrev pub retry_after : ReasonResolved → Option ReasonCreated
retry_after reasons.ClaimExpired = Some made.Retry
retry_after reasons.WorkerShutdown = Some made.Retry
retry_after reasons.IntermittentTask = Some made.TaskRetry
retry_after _ = None
