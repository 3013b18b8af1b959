-- Rules 2 to 14 of a definition: for each the keys that break it (this project's profile, formed after the Taskcluster reference).
use Rattle.std.specs.Prelude.{◌≡◌, ℕ, ◌+◌, ◌<◌, ◌≤◌, ◌⊎◌, min, List, [], ◌∷◌, Option, Some, None, IsSome, codes}
use Rattle.farm_text.specs.Slug.{IsSlug}
use Rattle.farm_text.specs.DateTime.{IsDateTime}
use Rattle.farm_text.specs.Document.{Document, text, object, members_of, get}
use Rattle.task_types.specs.Forms.{IsIdentifier, IsProject, IsRoute, queue_name}
use Rattle.task_types.specs.Choices.{priority_of, requires_of}
use Rattle.task_defs.specs.Values.{IsTextOf, Ill, IsQueue, IsTextList, IsScope, IsRetries, IsMoment}
use Rattle.task_types.specs.Maps.{AreTags}
use Rattle.task_types.specs.declared.objects.Metadata.{Metadata}

-- this key breaks a rule, for this reason
abbrev pub At : List ℕ → Type 0 → List ℕ → Type 0
At name Reason key = (key ≡ name) × Reason

-- the three ways to name a queue are of their forms, and do not agree
pub record Disagree (provisioner_id queue_id worker_type : Option Document) : Type 0 where
  pub queue : List ℕ
  pub provisioner : List ℕ
  pub worker : List ℕ
  pub queue_said : queue_id ≡ Some (text queue)
  pub provisioner_said : provisioner_id ≡ Some (text provisioner)
  pub worker_said : worker_type ≡ Some (text worker)
  pub provisioner_form : IsIdentifier provisioner
  pub worker_form : IsIdentifier worker
  pub other : ¬ (queue ≡ queue_name provisioner worker)

-- the same rule as the next one, of the three values
abbrev pub PartsBreak : Option Document → Option Document → Option Document → List ℕ → Type 0
PartsBreak provisioner queue worker key =
    At (codes "provisionerId") (Ill (IsTextOf IsIdentifier) provisioner) key
    ⊎ At (codes "taskQueueId") (Ill (IsTextOf IsQueue) queue ⊎ Disagree provisioner queue worker) key
    ⊎ At (codes "workerType") (Ill (IsTextOf IsIdentifier) worker) key

-- rule 2: a part is an identifier, a queue two of them, and they agree
abbrev pub QueueBreaks : Document → List ℕ → Type 0
QueueBreaks d key = PartsBreak (get (codes "provisionerId") d) (get (codes "taskQueueId") d) (get (codes "workerType") d) key

-- rule 3: the project is a name, the scheduler an identifier
abbrev pub NameBreaks : Document → List ℕ → Type 0
NameBreaks d key =
    At (codes "projectId") (Ill (IsTextOf IsProject) (get (codes "projectId") d)) key
    ⊎ At (codes "schedulerId") (Ill (IsTextOf IsIdentifier) (get (codes "schedulerId") d)) key

-- rule 4: the group is a slugid
abbrev pub GroupBreaks : Document → List ℕ → Type 0
GroupBreaks d key = At (codes "taskGroupId") (Ill (IsTextOf IsSlug) (get (codes "taskGroupId") d)) key

-- rule 5: at most 100 dependencies, each a slugid, none twice
abbrev pub DependenciesBreak : Document → List ℕ → Type 0
DependenciesBreak d key = At (codes "dependencies") (Ill (IsTextList 100 IsSlug) (get (codes "dependencies") d)) key

-- rule 6: what is asked of the dependencies is one of two words
abbrev pub RequiresBreaks : Document → List ℕ → Type 0
RequiresBreaks d key = At (codes "requires") (Ill (IsTextOf (λ t. IsSome (requires_of t))) (get (codes "requires") d)) key

-- rule 7: at most 64 routes, each 1 to 249 printable bytes, none twice
abbrev pub RoutesBreak : Document → List ℕ → Type 0
RoutesBreak d key = At (codes "routes") (Ill (IsTextList 64 IsRoute) (get (codes "routes") d)) key

-- rule 8: the priority is a name
abbrev pub PriorityBreaks : Document → List ℕ → Type 0
PriorityBreaks d key = At (codes "priority") (Ill (IsTextOf (λ t. IsSome (priority_of t))) (get (codes "priority") d)) key

-- rule 9: 0 to 49 retries
abbrev pub RetriesBreak : Document → List ℕ → Type 0
RetriesBreak d key = At (codes "retries") (Ill IsRetries (get (codes "retries") d)) key

-- rule 10: each of the three is a moment
abbrev pub MomentBreaks : Document → List ℕ → Type 0
MomentBreaks d key =
    At (codes "created") (Ill (IsTextOf IsMoment) (get (codes "created") d)) key
    ⊎ At (codes "deadline") (Ill (IsTextOf IsMoment) (get (codes "deadline") d)) key
    ⊎ At (codes "expires") (Ill (IsTextOf IsMoment) (get (codes "expires") d)) key

-- a key says this moment
abbrev pub MomentAt : List ℕ → Document → ℕ → Type 0
MomentAt key d m = (t : List ℕ) × (get key d ≡ Some (text t)) × IsDateTime m t

-- when a task expires: as said, else 365 days after its deadline, or at the last moment that a text gives if that is earlier
abbrev pub IsExpires : Document → ℕ → ℕ → Type 0
IsExpires d deadline m =
    MomentAt (codes "expires") d m
    ⊎ ((get (codes "expires") d ≡ None) × (m ≡ min (deadline + 31_536_000_000) 253_370_764_799_999))

-- rule 11: the deadline is after `created`, by at most five days
abbrev pub DeadlineBreaks : Document → List ℕ → Type 0
DeadlineBreaks d key =
    At (codes "deadline") ((created : ℕ) × (deadline : ℕ) × MomentAt (codes "created") d created × MomentAt (codes "deadline") d deadline
    × (¬ ((created < deadline) × (deadline ≤ created + 432_000_000)))) key

-- rule 12: the task expires after its deadline, also by its default
abbrev pub ExpiresBreaks : Document → List ℕ → Type 0
ExpiresBreaks d key =
    At (codes "expires") ((deadline : ℕ) × (expires : ℕ) × MomentAt (codes "deadline") d deadline × IsExpires d deadline expires × (¬ (deadline < expires))) key

-- rule 13: at most 1,000 scopes, each as it may be handed in, none twice
abbrev pub ScopesBreak : Document → List ℕ → Type 0
ScopesBreak d key = At (codes "scopes") (Ill (IsTextList 1_000 IsScope) (get (codes "scopes") d)) key

-- the four texts of `metadata`
abbrev pub metadata_doc : Metadata → Document
metadata_doc m =
    object (members_of ((codes "description", text m.description) ∷ (codes "name", text m.name) ∷ (codes "owner", text m.owner) ∷ (codes "source", text m.source) ∷ []))

-- exactly these four texts
abbrev pub IsMetadata : Document → Type 0
IsMetadata d = (m : Metadata) × (d ≡ metadata_doc m)

-- rule 14: `metadata` is exactly its four texts, and each tag is a text
abbrev pub MetadataBreaks : Document → List ℕ → Type 0
MetadataBreaks d key =
    At (codes "metadata") (Ill IsMetadata (get (codes "metadata") d)) key
    ⊎ At (codes "tags") (Ill AreTags (get (codes "tags") d)) key
