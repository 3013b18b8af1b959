-- What keeps all rules says a definition.
use Rattle.std.proofs.Common.{◌≡◌, ◌⊎◌, inl, inr, ℕ, ◌+◌, min, Bool, true, false, codes, is_some, List, Option, Some, None, refl, sym, ap, subst, ◌∙◌}
use Rattle.std.specs.List.{filter_map}
use Rattle.std.proofs.lemmas.Bool.{false≢true}
use Rattle.farm_text.specs.Slug.{slug_of}
use Rattle.farm_text.specs.Document.{Document, null, boolean, whole, text, array, object, get}
use Rattle.jsone_eval.proofs.Existence.{Exists, here, follow}
use Rattle.task_types.specs.declared.names.TaskQueue.{TaskQueue}
use Rattle.task_types.specs.declared.objects.Metadata.{Metadata}
use Rattle.task_defs.specs.declared.fault.DefFault.{DefFault}
use Rattle.task_types.specs.declared.task_def.TaskDef.{TaskDef}
use Rattle.task_defs.specs.Definitions.{IsQueueOf, IsDefinition, Says, rules}
use Rattle.task_defs.specs.Faults.{Holds, IsFault, AllHold}
use Rattle.task_types.specs.Forms.{IsIdentifier}
use Rattle.task_defs.specs.Keys.{KeyBreaks, has}
use Rattle.task_defs.specs.Rules.{MomentAt, IsExpires, IsMetadata, metadata_doc, QueueBreaks, MomentBreaks, MetadataBreaks}
use Rattle.task_defs.specs.Values.{IsTextOf, Ill, IsQueue, IsMoment, text_or, texts_in, slug_or, requires_in, priority_in, retries_in, members_or_none}
use Rattle.task_defs.proofs.KeyLemmas.{has_created, has_deadline, has_metadata, has_worker, has_queue, none_at}
use Rattle.hook_fire.proofs.SomeFault.{some_fault, rules_bounded}

value_at : (o : Option Document) → is_some o ≡ true → (v : Document) × (o ≡ Some v)
value_at None there = absurd (false≢true there)
value_at (Some v) there = (v, refl)

-- what stands there is not ill, so it cannot but be well
well_at : (Form : Document → Type 0) (o : Option Document) (v : Document) → o ≡ Some v → ¬ Ill Form o → ¬ ¬ Form v
well_at Form o v is kept = subst (λ x. ¬ Ill Form x) is kept

text_at : (Form : List ℕ → Type 0) (v : Document) → IsTextOf Form v → (t : List ℕ) × (v ≡ text t) × Form t
text_at Form (text t) is = (t, refl, is)
text_at Form null is = absurd is
text_at Form (boolean b) is = absurd is
text_at Form (whole z) is = absurd is
text_at Form (array ds) is = absurd is
text_at Form (object ms) is = absurd is

-- a text of this form stands at a key
record TextAt (Form : List ℕ → Type 0) (o : Option Document) : Type 0 where
  pub told : List ℕ
  pub is : o ≡ Some (text told)
  pub form : Form told

text_there : (Form : List ℕ → Type 0) (o : Option Document) → is_some o ≡ true → ¬ Ill (IsTextOf Form) o → ¬ ¬ TextAt Form o
text_there Form o there kept =
    let v = value_at o there in
    follow (well_at (IsTextOf Form) o v.0 v.1 kept) (λ well none.
    let t = text_at Form v.0 well in
    none record { told = t.0; is = v.1 ∙ ap (λ (x : Document). Some x) t.1; form = t.2 })

-- ---- moments

moment_at : (d : Document) (key : List ℕ) → has key d ≡ true → ¬ Ill (IsTextOf IsMoment) (get key d) → Exists (MomentAt key d)
moment_at d key there kept = follow (text_there IsMoment (get key d) there kept) (λ t. here (MomentAt key d) t.form.0 (t.told, t.is, t.form.1))

expires_by : (d : Document) (deadline : ℕ) (there : Bool) → has (codes "expires") d ≡ there → ¬ Ill (IsTextOf IsMoment) (get (codes "expires") d) → Exists (IsExpires d deadline)
expires_by d deadline true e kept = follow (moment_at d (codes "expires") e kept) (λ m. here (IsExpires d deadline) m.0 (inl m.1))
expires_by d deadline false e kept = here (IsExpires d deadline) (min (deadline + 31_536_000_000) 253_370_764_799_999) (inr (none_at (get (codes "expires") d) e, refl))

-- ---- the queue

abbrev QueueAt : Document → TaskQueue → Type 0
QueueAt d queue = IsQueueOf (get (codes "provisionerId") d) (get (codes "taskQueueId") d) (get (codes "workerType") d) queue

queue_named : (d : Document) → TextAt IsQueue (get (codes "taskQueueId") d) → (queue : TaskQueue) × QueueAt d queue
queue_named d t = (
  record { provisioner_id = t.form.0; worker_type = t.form.1 },
  record { provisioner = t.form.2; worker = t.form.3; said = inl (t.is ∙ ap (λ (x : List ℕ). Some (text x)) t.form.4) },
)

queue_of_parts : (d : Document) → get (codes "taskQueueId") d ≡ None → TextAt IsIdentifier (get (codes "provisionerId") d) → TextAt IsIdentifier (get (codes "workerType") d) → (queue : TaskQueue) × QueueAt d queue
queue_of_parts d none p w = (record { provisioner_id = p.told; worker_type = w.told }, record { provisioner = p.form; worker = w.form; said = inr (none, p.is, w.is) })

by_parts : (d : Document) (there : Bool) → has (codes "provisionerId") d ≡ there → has (codes "taskQueueId") d ≡ false → Holds (KeyBreaks d) → Holds (QueueBreaks d) → Exists (QueueAt d)
by_parts d false e none keys queue = absurd (false≢true (sym none ∙ has_queue d keys e))
by_parts d true e none keys queue =
    follow (text_there IsIdentifier (get (codes "provisionerId") d) e (λ ill. queue (codes "provisionerId") (inl (refl, ill)))) (λ p.
    follow (text_there IsIdentifier (get (codes "workerType") d) (has_worker d keys e) (λ ill. queue (codes "workerType") (inr (inr (refl, ill))))) (λ w.
    let q = queue_of_parts d (none_at (get (codes "taskQueueId") d) none) p w in
    here (QueueAt d) q.0 q.1))

queue_by : (d : Document) (there : Bool) → has (codes "taskQueueId") d ≡ there → Holds (KeyBreaks d) → Holds (QueueBreaks d) → Exists (QueueAt d)
queue_by d true e keys queue =
    follow (text_there IsQueue (get (codes "taskQueueId") d) e (λ ill. queue (codes "taskQueueId") (inr (inl (refl, inl ill))))) (λ t.
    let q = queue_named d t in
    here (QueueAt d) q.0 q.1)
queue_by d false e keys queue = by_parts d (has (codes "provisionerId") d) refl e keys queue

-- ---- the whole

metadata_at : (d : Document) → Holds (KeyBreaks d) → Holds (MetadataBreaks d) → Exists (λ (m : Metadata). get (codes "metadata") d ≡ Some (metadata_doc m))
metadata_at d keys metadata =
    let v = value_at (get (codes "metadata") d) (has_metadata d keys) in
    follow (well_at IsMetadata (get (codes "metadata") d) v.0 v.1 (λ ill. metadata (codes "metadata") (inl (refl, ill)))) (λ m.
    here (λ (x : Metadata). get (codes "metadata") d ≡ Some (metadata_doc x)) m.0 (v.1 ∙ ap (λ (x : Document). Some x) m.1))

definition_of : (d : Document) (id : List ℕ) (created deadline expires : ℕ) (metadata : Metadata) (queue : TaskQueue) → MomentAt (codes "created") d created → MomentAt (codes "deadline") d deadline
    → IsExpires d deadline expires → get (codes "metadata") d ≡ Some (metadata_doc metadata) → QueueAt d queue → (def : TaskDef) × IsDefinition d id def
definition_of d id created deadline expires metadata queue is_created is_deadline is_expires is_metadata is_queue = (
  record {
    created = created;
    deadline = deadline;
    dependencies = filter_map slug_of (texts_in (get (codes "dependencies") d));
    expires = expires;
    extra = members_or_none (get (codes "extra") d);
    metadata = metadata;
    payload = members_or_none (get (codes "payload") d);
    priority = priority_in (get (codes "priority") d);
    project_id = text_or (codes "none") (get (codes "projectId") d);
    queue = queue;
    requires_ = requires_in (get (codes "requires") d);
    retries = retries_in (get (codes "retries") d);
    routes = texts_in (get (codes "routes") d);
    scheduler_id = text_or (codes "-") (get (codes "schedulerId") d);
    scopes = texts_in (get (codes "scopes") d);
    tags = members_or_none (get (codes "tags") d);
    task_group_id = slug_or id (get (codes "taskGroupId") d);
  },
  record {
    created = is_created;
    deadline = is_deadline;
    dependencies = refl;
    expires = is_expires;
    extra = refl;
    metadata = is_metadata;
    payload = refl;
    priority = refl;
    project_id = refl;
    queue = is_queue;
    requires_ = refl;
    retries = refl;
    routes = refl;
    scheduler_id = refl;
    scopes = refl;
    tags = refl;
    task_group_id = refl;
  },
)

some_definition : (d : Document) (id : List ℕ) → Holds (KeyBreaks d) → Holds (QueueBreaks d) → Holds (MomentBreaks d) → Holds (MetadataBreaks d) → Exists (IsDefinition d id)
some_definition d id keys queue moments metadata =
    follow (moment_at d (codes "created") (has_created d keys) (λ ill. moments (codes "created") (inl (refl, ill)))) (λ c.
    follow (moment_at d (codes "deadline") (has_deadline d keys) (λ ill. moments (codes "deadline") (inr (inl (refl, ill))))) (λ l.
    follow (expires_by d l.0 (has (codes "expires") d) refl (λ ill. moments (codes "expires") (inr (inr (refl, ill))))) (λ e.
    follow (metadata_at d keys metadata) (λ m.
    follow (queue_by d (has (codes "taskQueueId") d) refl keys queue) (λ q.
    let made = definition_of d id c.0 l.0 e.0 m.0 q.0 c.1 l.1 e.1 m.1 q.1 in
    here (IsDefinition d id) made.0 made.1)))))

-- a document says a definition, or breaks a rule
abbrev pub SaysOrBreaks : Document → List ℕ → Type 0
SaysOrBreaks d id = ((def : TaskDef) × Says d id def) ⊎ ((f : DefFault) × IsFault (rules d id) f)

says_where_kept : (d : Document) (id : List ℕ) → AllHold (rules d id) → ¬ ¬ SaysOrBreaks d id
says_where_kept d id all = follow {C = SaysOrBreaks d id} (some_definition d id all.0 all.1.0 all.1.1.1.1.1.1.1.1.1.0 all.1.1.1.1.1.1.1.1.1.1.1.1.1.0) (λ def none. none (inl (def.0, record { sound = all; definition = def.1 })))

pub says_or_breaks : (d : Document) (id : List ℕ) → ¬ ¬ SaysOrBreaks d id
says_or_breaks d id = follow {C = SaysOrBreaks d id} (some_fault (rules d id) (rules_bounded d id)) (λ h. elim h [
  | inl fault ↦ λ none. none (inr fault)
  | inr all ↦ says_where_kept d id all
])
