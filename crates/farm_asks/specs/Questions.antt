-- What a farm is asked: a call as it was asked, and what is known of it (the Taskcluster reference; the names of parameters are those of its routes, but for `queue`).
use Rattle.std.specs.Prelude.{ℕ, List, codes}
use Rattle.task_types.specs.declared.change.Kind.TheVariants.{Create}
use Rattle.farm_record.specs.Records.{IsSaid}
use Rattle.farm_asks.specs.declared.question.Call.{Call}
use Rattle.farm_asks.specs.declared.question.Call.TheVariants.{CreateTask}
use Rattle.farm_asks.specs.declared.question.Caller.{Caller}
use Rattle.farm_asks.specs.declared.question.Parameter.{Parameter}
use Rattle.farm_asks.specs.declared.question.Parameter.TheVariants.{TaskId, RunId, TaskGroupId, Queue, HookGroupId, HookId, Limit, ContinuationToken}

-- a call as it was asked: the clock's moment, the id drawn for it, who calls, and what
pub record Asking : Type 0 where
  pub moment : ℕ
  pub drawn : List ℕ
  pub caller : Caller
  pub call : Call

-- some document says the definition of a task that a call makes
abbrev pub IsSaidCall : Call → Type 0
IsSaidCall (CreateTask creation) = IsSaid (Create creation)
IsSaidCall call = Unit {0}

-- the name by which a reply tells of a parameter
abbrev pub parameter_name : Parameter → List ℕ
parameter_name TaskId = codes "taskId"
parameter_name RunId = codes "runId"
parameter_name TaskGroupId = codes "taskGroupId"
parameter_name Queue = codes "queue"
parameter_name HookGroupId = codes "hookGroupId"
parameter_name HookId = codes "hookId"
parameter_name Limit = codes "limit"
parameter_name ContinuationToken = codes "continuationToken"
