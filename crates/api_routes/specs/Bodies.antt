-- The call that the body of a message says (the bodies of the queue and hooks services of the Taskcluster reference, as JSON, RFC 8259).
use Rattle.std.specs.Prelude.{◌≡◌, ◌⊎◌, ℕ, ◌≤◌, Bool, true, false, pos, codes, List, [], ◌∷◌, Option, Some, None}
use Rattle.serde_json.specs.Data.{Data}
use Rattle.farm_text.specs.Document.{Document, Members, whole, text, object, members_of, data_of}
use Rattle.farm_text.specs.Reading.{IsJson, unwhole}
use Rattle.task_defs.specs.Definitions.{Says, rules}
use Rattle.task_defs.specs.Faults.{IsFault}
use Rattle.task_types.specs.Forms.{IsIdentifier}
use Rattle.task_types.specs.declared.names.TaskQueue.{TaskQueue}
use Rattle.run_states.specs.Reasons.{resolved_name}
use Rattle.task_index.specs.Changes.{reason_of}
use Rattle.task_types.specs.declared.change.Creation.{Creation}
use Rattle.task_types.specs.declared.change.Report.{Report}
use Rattle.task_types.specs.declared.change.Report.TheVariants as reports
use Rattle.task_types.specs.declared.change.RunName.{RunName}
use Rattle.farm_asks.specs.declared.question.BodyFault.{BodyFault}
use Rattle.farm_asks.specs.declared.question.BodyFault.TheVariants.{NotJson, NotWhole, NoDefinition, NoWork, NoReason, NoPayload}
use Rattle.farm_asks.specs.declared.question.Call.{Call}
use Rattle.farm_asks.specs.declared.question.Call.TheVariants.{BadParameter, BadBody, CreateTask, ClaimWork, ReportRun, TriggerHook}
use Rattle.farm_asks.specs.declared.question.WorkRequest.{WorkRequest}
use Rattle.farm_asks.specs.declared.question.Parameter.TheVariants.{TaskId}

-- the body is JSON of this document, in which each number is whole
pub record IsDocument (body : List ℕ) (d : Document) : Type 0 where
  pub json : IsJson body (data_of d)
  pub whole : unwhole (data_of d) ≡ []

-- the body is none that a call has, for this reason: no document, or one that is ill so
abbrev pub HasFault : (Document → BodyFault → Type 0) → List ℕ → BodyFault → Type 0
HasFault IsIll body NotJson = (d : Data) → ¬ IsJson body d
HasFault IsIll body (NotWhole path) = (d : Data) × IsJson body d × ((more : List (List ℕ)) × (unwhole d ≡ path ∷ more))
HasFault IsIll body fault = (d : Document) × IsDocument body d × IsIll d fault

-- ---- createTask

-- a document is no definition of a task of this id, by that fault
abbrev pub IsNoTask : List ℕ → Document → BodyFault → Type 0
IsNoTask id d (NoDefinition fault) = IsFault (rules d id) fault
IsNoTask id d fault = ⊥

-- the body says the definition of this task
abbrev pub SaysTask : List ℕ → Creation → Type 0
SaysTask body creation = (d : Document) × IsDocument body d × Says d creation.id creation.definition

-- the call of a body that is to define the task of this id: it says the task, or has a fault
abbrev pub IsTaskBody : List ℕ → List ℕ → Call → Type 0
IsTaskBody body id (CreateTask creation) = (creation.id ≡ id) × SaysTask body creation
IsTaskBody body id (BadBody fault) = HasFault (IsNoTask id) body fault
IsTaskBody body id call = ⊥

-- the call to make the task whose id is this, where the path has one of its form
abbrev pub IsCreateCall : List ℕ → Option (List ℕ) → Call → Type 0
IsCreateCall body None call = call ≡ BadParameter TaskId
IsCreateCall body (Some id) call = IsTaskBody body id call

-- ---- claimWork

-- the members of a request for work that tell who the worker is
abbrev pub worker_members : List ℕ → List ℕ → List (List ℕ × Document)
worker_members group id = (codes "workerGroup", text group) ∷ (codes "workerId", text id) ∷ []

-- a document asks for so many runs, 1 to 32, for the worker of these names; for one, where it does not say how many; it says no more
abbrev pub AsksFor : ℕ → List ℕ → List ℕ → Document → Type 0
AsksFor tasks group id d =
    ((d ≡ object (members_of ((codes "tasks", whole (pos tasks)) ∷ worker_members group id))) × (1 ≤ tasks) × (tasks ≤ 32))
    ⊎ ((d ≡ object (members_of (worker_members group id))) × (tasks ≡ 1))

-- a document is a request for work, of a worker that two identifiers name
pub record SaysWork (d : Document) (work : WorkRequest) : Type 0 where
  pub group : IsIdentifier work.worker_group
  pub id : IsIdentifier work.worker_id
  pub is : AsksFor work.tasks work.worker_group work.worker_id d

-- a document is none
abbrev pub IsNoWork : Document → BodyFault → Type 0
IsNoWork d NoWork = (work : WorkRequest) → ¬ SaysWork d work
IsNoWork d fault = ⊥

-- the call of a body that is to ask for work of this queue
abbrev pub IsWorkBody : List ℕ → TaskQueue → Call → Type 0
IsWorkBody body queue (ClaimWork work) = (work.queue ≡ queue) × ((d : Document) × IsDocument body d × SaysWork d work)
IsWorkBody body queue (BadBody fault) = HasFault IsNoWork body fault
IsWorkBody body queue call = ⊥

-- ---- reportException

-- a worker ends a run as an exception so
abbrev pub is_exception : Report → Bool
is_exception reports.Completed = false
is_exception reports.Failed = false
is_exception _ = true

-- a document is the reason for which a worker ends a run as an exception: an object of that one member
pub record SaysReason (d : Document) (report : Report) : Type 0 where
  pub exception : is_exception report ≡ true
  pub is : d ≡ object (members_of ((codes "reason", text (resolved_name (reason_of report))) ∷ []))

-- a document is none
abbrev pub IsNoReason : Document → BodyFault → Type 0
IsNoReason d NoReason = (report : Report) → ¬ SaysReason d report
IsNoReason d fault = ⊥

-- the call of a body that is to say why this run ended
abbrev pub IsReasonBody : List ℕ → RunName → Call → Type 0
IsReasonBody body name (ReportRun report) =
    (report.id ≡ name.id) × (report.run ≡ name.run) × ((d : Document) × IsDocument body d × SaysReason d report.reason)
IsReasonBody body name (BadBody fault) = HasFault IsNoReason body fault
IsReasonBody body name call = ⊥

-- ---- triggerHook

-- a document is none that a hook is triggered with: it is no object
abbrev pub IsNoPayload : Document → BodyFault → Type 0
IsNoPayload d NoPayload = (members : Members) → ¬ (d ≡ object members)
IsNoPayload d fault = ⊥

-- the call of a body that is to trigger the hook of this group and this id
abbrev pub IsTriggerBody : List ℕ → List ℕ → List ℕ → Call → Type 0
IsTriggerBody body group id (TriggerHook trigger) =
    (trigger.hook.group ≡ group) × (trigger.hook.id ≡ id) × IsDocument body (object trigger.payload)
IsTriggerBody body group id (BadBody fault) = HasFault IsNoPayload body fault
IsTriggerBody body group id call = ⊥
