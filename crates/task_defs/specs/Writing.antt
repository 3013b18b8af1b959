-- What is written of a document, and of a full form member by member.
use Rattle.std.specs.Prelude.{◌≡◌, ◌≤◌, ℕ, pos, List, [], ◌∷◌, ◌++◌, map, codes}
use Rattle.json.specs.Token.{Token, key}
use Rattle.json.specs.Tree.{json_tokens}
use Rattle.serde_json.specs.Data.{depth}
use Rattle.serde_json.specs.Written.{outline}
use Rattle.farm_text.specs.Slug.{slug_text}
use Rattle.farm_text.specs.Moment.{IsMomentText}
use Rattle.farm_text.specs.Document.{Document, text, whole, object, data_of, document_text}
use Rattle.farm_text.specs.Reading.{IsJson, unwhole}
use Rattle.farm_text.specs.Written.{ReadsBack, IsWhole}
use Rattle.task_types.specs.Forms.{queue_name}
use Rattle.task_types.specs.Choices.{priority_name, requires_name}
use Rattle.task_defs.specs.Rules.{metadata_doc}
use Rattle.task_defs.specs.Definitions.{text_list, IsFullForm}
use Rattle.task_types.specs.declared.task_def.TaskDef.{TaskDef}

-- the tokens of the document stand behind the old ones, they are read as it, and each number in it is whole
pub record IsWritten (d : Document) (old new : List Token) : Type 0 where
  pub tokens : new ≡ old ++ json_tokens (outline (data_of d))
  pub reads_back : ReadsBack d
  pub whole : IsWhole d

-- a text of the full form, which is read as it where it does not nest too deep
pub record IsFullOf (def : TaskDef) (text : List ℕ) : Type 0 where
  pub full : Document
  pub form : IsFullForm def full
  pub spelled : text ≡ document_text full
  pub json : depth (data_of full) ≤ 127 → IsJson text (data_of full)
  pub whole : unwhole (data_of full) ≡ []

-- ---- for private clauses: members of a map

-- keys with their documents
abbrev pub Pairs : Type 0
Pairs = List (List ℕ × Document)

-- their tokens
abbrev pub member_tokens : Pairs → List Token
member_tokens [] = []
member_tokens (m ∷ ms) = key m.0 ∷ (json_tokens (outline (data_of m.1)) ++ member_tokens ms)

-- each document is read back
abbrev pub AllReadBack : Pairs → Type 0
AllReadBack [] = Unit {0}
AllReadBack (m ∷ ms) = ReadsBack m.1 × AllReadBack ms

-- each number is whole
abbrev pub AllWhole : Pairs → Type 0
AllWhole [] = Unit {0}
AllWhole (m ∷ ms) = IsWhole m.1 × AllWhole ms

-- the members' tokens stand behind the old ones, each of them is read back, and each number in them is whole
pub record AreWritten (ms : Pairs) (old new : List Token) : Type 0 where
  pub tokens : new ≡ old ++ member_tokens ms
  pub read_back : AllReadBack ms
  pub whole : AllWhole ms

-- one member with a moment's text is written
pub record MomentIsWritten (name : List ℕ) (moment : ℕ) (old new : List Token) : Type 0 where
  pub said : List ℕ
  pub is : IsMomentText moment said
  pub are : AreWritten ((name, text said) ∷ []) old new

-- ---- the members of a full form, in five parts

-- from `created` to `expires`
abbrev pub first_members : TaskDef → List ℕ → List ℕ → List ℕ → Pairs
first_members def created deadline expires =
    (codes "created", text created)
    ∷ (codes "deadline", text deadline)
    ∷ (codes "dependencies", text_list (map slug_text def.dependencies))
    ∷ (codes "expires", text expires)
    ∷ []

-- from `extra` to `priority`
abbrev pub work_members : TaskDef → Pairs
work_members def =
    (codes "extra", object def.extra)
    ∷ (codes "metadata", metadata_doc def.metadata)
    ∷ (codes "payload", object def.payload)
    ∷ (codes "priority", text (priority_name def.priority))
    ∷ []

-- from `projectId` to `retries`
abbrev pub owner_members : TaskDef → Pairs
owner_members def =
    (codes "projectId", text def.project_id)
    ∷ (codes "provisionerId", text def.queue.provisioner_id)
    ∷ (codes "requires", text (requires_name def.requires_))
    ∷ (codes "retries", whole (pos def.retries))
    ∷ []

-- from `routes` to `tags`
abbrev pub right_members : TaskDef → Pairs
right_members def =
    (codes "routes", text_list def.routes)
    ∷ (codes "schedulerId", text def.scheduler_id)
    ∷ (codes "scopes", text_list def.scopes)
    ∷ (codes "tags", object def.tags)
    ∷ []

-- from `taskGroupId` to `workerType`
abbrev pub place_members : TaskDef → Pairs
place_members def =
    (codes "taskGroupId", text (slug_text def.task_group_id))
    ∷ (codes "taskQueueId", text (queue_name def.queue.provisioner_id def.queue.worker_type))
    ∷ (codes "workerType", text def.queue.worker_type)
    ∷ []

-- the first part is written, its moments by these texts
pub record FirstAreWritten (def : TaskDef) (old new : List Token) : Type 0 where
  pub created : List ℕ
  pub deadline : List ℕ
  pub expires : List ℕ
  pub created_text : IsMomentText def.created created
  pub deadline_text : IsMomentText def.deadline deadline
  pub expires_text : IsMomentText def.expires expires
  pub are : AreWritten (first_members def created deadline expires) old new
