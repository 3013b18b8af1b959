-- The definition that a document says, its full form, and the rules that it keeps.
use Rattle.std.specs.Prelude.{◌≡◌, ℕ, ◌<◌, ◌⊎◌, pos, List, [], ◌∷◌, map, codes, length, Option, Some, None}
use Rattle.std.specs.List.{filter_map}
use Rattle.farm_text.specs.Slug.{slug_text, slug_of}
use Rattle.farm_text.specs.Moment.{IsMomentText}
use Rattle.farm_text.specs.Document.{Document, text, whole, array, object, items_of, members_of, get, document_text}
use Rattle.task_types.specs.Forms.{IsIdentifier, queue_name}
use Rattle.task_types.specs.Choices.{priority_name, requires_name}
use Rattle.task_defs.specs.Values.{text_or, texts_in, slug_or, requires_in, priority_in, retries_in, members_or_none}
use Rattle.task_defs.specs.Faults.{Rule, AllHold}
use Rattle.task_defs.specs.Keys.{KeyBreaks}
use Rattle.task_defs.specs.Rules.{MomentAt, IsExpires, metadata_doc, QueueBreaks, NameBreaks, GroupBreaks, DependenciesBreak, RequiresBreaks, RoutesBreak, PriorityBreaks, RetriesBreak, MomentBreaks, DeadlineBreaks, ExpiresBreaks, ScopesBreak, MetadataBreaks}
use Rattle.task_types.specs.declared.names.TaskQueue.{TaskQueue}
use Rattle.task_types.specs.declared.task_def.TaskDef.{TaskDef}

-- the queue that the values of `provisionerId`, `taskQueueId` and `workerType` say: that of the second, else of the two parts
pub record IsQueueOf (provisioner_id queue_id worker_type : Option Document) (queue : TaskQueue) : Type 0 where
  pub provisioner : IsIdentifier queue.provisioner_id
  pub worker : IsIdentifier queue.worker_type
  pub said :
      (queue_id ≡ Some (text (queue_name queue.provisioner_id queue.worker_type)))
      ⊎ ((queue_id ≡ None) × (provisioner_id ≡ Some (text queue.provisioner_id)) × (worker_type ≡ Some (text queue.worker_type)))

-- the definition that a document says for the task of this id, key by key with its default
pub record IsDefinition (d : Document) (id : List ℕ) (def : TaskDef) : Type 0 where
  pub created : MomentAt (codes "created") d def.created
  pub deadline : MomentAt (codes "deadline") d def.deadline
  pub dependencies : def.dependencies ≡ filter_map slug_of (texts_in (get (codes "dependencies") d))
  pub expires : IsExpires d def.deadline def.expires
  pub extra : def.extra ≡ members_or_none (get (codes "extra") d)
  pub metadata : get (codes "metadata") d ≡ Some (metadata_doc def.metadata)
  pub payload : def.payload ≡ members_or_none (get (codes "payload") d)
  pub priority : def.priority ≡ priority_in (get (codes "priority") d)
  pub project_id : def.project_id ≡ text_or (codes "none") (get (codes "projectId") d)
  pub queue : IsQueueOf (get (codes "provisionerId") d) (get (codes "taskQueueId") d) (get (codes "workerType") d) def.queue
  pub requires_ : def.requires_ ≡ requires_in (get (codes "requires") d)
  pub retries : def.retries ≡ retries_in (get (codes "retries") d)
  pub routes : def.routes ≡ texts_in (get (codes "routes") d)
  pub scheduler_id : def.scheduler_id ≡ text_or (codes "-") (get (codes "schedulerId") d)
  pub scopes : def.scopes ≡ texts_in (get (codes "scopes") d)
  pub tags : def.tags ≡ members_or_none (get (codes "tags") d)
  pub task_group_id : def.task_group_id ≡ slug_or id (get (codes "taskGroupId") d)

-- a list of texts
abbrev pub text_list : List (List ℕ) → Document
text_list ts = array (items_of (map text ts))

-- all keys of a definition with their values, its moments by these texts
abbrev pub full_form : TaskDef → List ℕ → List ℕ → List ℕ → Document
full_form def created deadline expires =
    object (members_of (
    (codes "created", text created)
    ∷ (codes "deadline", text deadline)
    ∷ (codes "dependencies", text_list (map slug_text def.dependencies))
    ∷ (codes "expires", text expires)
    ∷ (codes "extra", object def.extra)
    ∷ (codes "metadata", metadata_doc def.metadata)
    ∷ (codes "payload", object def.payload)
    ∷ (codes "priority", text (priority_name def.priority))
    ∷ (codes "projectId", text def.project_id)
    ∷ (codes "provisionerId", text def.queue.provisioner_id)
    ∷ (codes "requires", text (requires_name def.requires_))
    ∷ (codes "retries", whole (pos def.retries))
    ∷ (codes "routes", text_list def.routes)
    ∷ (codes "schedulerId", text def.scheduler_id)
    ∷ (codes "scopes", text_list def.scopes)
    ∷ (codes "tags", object def.tags)
    ∷ (codes "taskGroupId", text (slug_text def.task_group_id))
    ∷ (codes "taskQueueId", text (queue_name def.queue.provisioner_id def.queue.worker_type))
    ∷ (codes "workerType", text def.queue.worker_type)
    ∷ []))

-- the full form of a definition: all keys, with each moment in 24 bytes
pub record IsFullForm (def : TaskDef) (full : Document) : Type 0 where
  pub created : List ℕ
  pub deadline : List ℕ
  pub expires : List ℕ
  pub created_text : IsMomentText def.created created
  pub deadline_text : IsMomentText def.deadline deadline
  pub expires_text : IsMomentText def.expires expires
  pub is : full ≡ full_form def created deadline expires

-- the text of the full form has more than 8,388,608 bytes
pub record IsTooLong (d : Document) (id : List ℕ) : Type 0 where
  pub def : TaskDef
  pub full : Document
  pub definition : IsDefinition d id def
  pub form : IsFullForm def full
  pub long : 8388608 < length (document_text full)

-- the rules in their order; the length of the full form is asked where all else holds
abbrev pub rules : Document → List ℕ → List Rule
rules d id =
    record { number = 1; Broken = KeyBreaks d }
    ∷ record { number = 2; Broken = QueueBreaks d }
    ∷ record { number = 3; Broken = NameBreaks d }
    ∷ record { number = 4; Broken = GroupBreaks d }
    ∷ record { number = 5; Broken = DependenciesBreak d }
    ∷ record { number = 6; Broken = RequiresBreaks d }
    ∷ record { number = 7; Broken = RoutesBreak d }
    ∷ record { number = 8; Broken = PriorityBreaks d }
    ∷ record { number = 9; Broken = RetriesBreak d }
    ∷ record { number = 10; Broken = MomentBreaks d }
    ∷ record { number = 11; Broken = DeadlineBreaks d }
    ∷ record { number = 12; Broken = ExpiresBreaks d }
    ∷ record { number = 13; Broken = ScopesBreak d }
    ∷ record { number = 14; Broken = MetadataBreaks d }
    ∷ record { number = 14; Broken = λ key. (key ≡ []) × IsTooLong d id }
    ∷ []

-- the document keeps the rules, and says this definition for the task of this id
pub record Says (d : Document) (id : List ℕ) (def : TaskDef) : Type 0 where
  pub sound : AllHold (rules d id)
  pub definition : IsDefinition d id def
