-- The full form of a definition that a document says, says it too.
use Rattle.std.proofs.Common.{◌≡◌, ℕ, pos, ◌+◌, ◌<◌, ◌≤◌, true, nat_le, List, [], map, All, codes, Option, Some, IsSome, refl, sym, ap, ◌∙◌, subst, inl, inr, arith}
use Rattle.std.specs.List.{filter_map}
use Rattle.std.proofs.lemmas.Bool.{false≢true}
use Rattle.farm_text.specs.Slug.{IsUuid4, IsSlug, slug_text, slug_of}
use Rattle.farm_text.specs.Moment.{IsMomentText}
use Rattle.farm_text.specs.DateTime.{IsDateTime}
use Rattle.farm_text.specs.Document.{Document, text, whole as whole_number, object, Members, get}
use Rattle.farm_text.proofs.SlugLemmas.{slug_of_uuid}
use Rattle.task_types.specs.declared.task_def.TaskDef.{TaskDef}
use Rattle.task_types.specs.Forms.{IsIdentifier, IsProject, IsRoute, queue_name}
use Rattle.task_types.specs.Choices.{priority_name, priority_of, requires_name, requires_of}
use Rattle.task_defs.specs.Documents.{nesting}
use Rattle.task_types.specs.Maps.{members_in, AreTags}
use Rattle.task_defs.specs.Values.{IsTextOf, Ill, IsTextList, IsScope, IsRetries, text_or, texts_in, members_or_none}
use Rattle.task_defs.specs.Keys.{may_stand, required, KeyBreaks}
use Rattle.task_defs.specs.Faults.{Holds}
use Rattle.task_defs.specs.Rules.{IsExpires, Disagree, QueueBreaks, NameBreaks, GroupBreaks, DependenciesBreak, RequiresBreaks, RoutesBreak, PriorityBreaks, RetriesBreak, MomentBreaks, DeadlineBreaks, ExpiresBreaks, ScopesBreak, MetadataBreaks}
use Rattle.task_defs.specs.Definitions.{text_list, IsDefinition, IsFullForm, IsTooLong, Says, full_form}
use Rattle.task_defs.specs.Parts.{IsOnlyAt}
use Rattle.task_defs.proofs.FaultLemmas.{ok_two, ok_three}
use Rattle.task_defs.proofs.TextLemmas.{texts_back}
use Rattle.task_defs.proofs.TimeLemmas.{deadline_holds, expires_holds, expires_same}
use Rattle.task_defs.proofs.DefinitionLemmas.{definition_one}
use Rattle.task_defs.proofs.IdLemmas.{slug_back, uuids_of, ids_back}
use Rattle.task_defs.proofs.FullLemmas.{text_form, texts_form, ids_form, retries_form, tags_form, requires_back, priority_back, group_uuid, default_project, default_scheduler, AllMembers, found_among, none_lacks, texts_nest, fit_in, members_nest, less_stable, most_stable}

-- the ids of a definition are UUIDs, as they are where a document says it for a task whose id is one
pub record HasIds (def : TaskDef) : Type 0 where
  pub ids : All IsUuid4 def.dependencies
  pub group : IsUuid4 def.task_group_id

pub has_ids : (d : Document) (id : List ℕ) (def : TaskDef) → IsUuid4 id → IsDefinition d id def → HasIds def
has_ids d id def u h = record {
  ids = subst (All IsUuid4) (sym h.dependencies) (uuids_of (texts_in (get (codes "dependencies") d)));
  group = subst IsUuid4 (sym h.task_group_id) (group_uuid id (get (codes "taskGroupId") d) u);
}

-- the three moments of a definition, with texts of them
pub record AreSaid (def : TaskDef) (created deadline expires : List ℕ) : Type 0 where
  pub at_created : IsDateTime def.created created
  pub at_deadline : IsDateTime def.deadline deadline
  pub at_expires : IsDateTime def.expires expires

last_expires : (d : Document) (deadline m : ℕ) → IsExpires d deadline m → m ≤ 253370764799999
last_expires d deadline m h = elim h [ inl x ↦ x.2.moment.1 | inr x ↦ let e = x.1 in omega arith ]

-- what is written of a definition's moments is read back
pub said_of : ((m : ℕ) (t : List ℕ) → m ≤ 253370764799999 → IsMomentText m t → IsDateTime m t) → (d : Document) (id : List ℕ) (def : TaskDef) (f : Document) → IsDefinition d id def → (form : IsFullForm def f)
    → AreSaid def form.created form.deadline form.expires
said_of read d id def f h form = record {
  at_created = read def.created form.created h.created.2.moment.1 form.created_text;
  at_deadline = read def.deadline form.deadline h.deadline.2.moment.1 form.deadline_text;
  at_expires = read def.expires form.expires (last_expires d def.deadline def.expires h.expires) form.expires_text;
}

-- a full form says its definition, for whichever task
pub definition_of : (d : Document) (id other : List ℕ) (def : TaskDef) (c m e : List ℕ) → IsDefinition d id def → HasIds def → AreSaid def c m e → IsDefinition (full_form def c m e) other def
definition_of d id other def c m e h w said = record {
  created = (c, refl, said.at_created);
  deadline = (m, refl, said.at_deadline);
  dependencies = sym (ap (filter_map slug_of) (texts_back (map slug_text def.dependencies)) ∙ ids_back def.dependencies w.ids);
  expires = inl (e, refl, said.at_expires);
  extra = refl;
  metadata = refl;
  payload = refl;
  priority = rw (priority_back def.priority) refl;
  project_id = refl;
  queue = record { provisioner = h.queue.provisioner; worker = h.queue.worker; said = inl refl };
  requires_ = rw (requires_back def.requires_) refl;
  retries = refl;
  routes = sym (texts_back def.routes);
  scheduler_id = refl;
  scopes = sym (texts_back def.scopes);
  tags = refl;
  task_group_id = rw (slug_back def.task_group_id w.group) refl;
}

-- ---- the rules that a full form keeps

same_text : (a b : List ℕ) → Some (text a) ≡ Some (text b) → b ≡ a
same_text a b e = cc

only_at : ((m n : ℕ) (t : List ℕ) → IsDateTime m t → IsDateTime n t → m ≡ n) → (t : List ℕ) (m : ℕ) → IsDateTime m t → IsOnlyAt (Some (text t)) m
only_at one t m is = (text t, refl, record { said = t; is = refl; moment = is; only = λ n h. one m n t is h })

map_nests : (key : List ℕ) (d : Document) (ms : Members) → Holds (KeyBreaks d) → ms ≡ members_or_none (get key d) → nat_le (nesting (object ms)) 126 ≡ true
map_nests key d ms holds is =
    subst (λ (x : Members). nat_le (nesting (object x)) 126 ≡ true) (sym is) (members_nest key (get key d) (λ v at. fit_in d key v holds at))

all_fit : (d : Document) (id : List ℕ) (def : TaskDef) (c m e : List ℕ) → Holds (KeyBreaks d) → IsDefinition d id def → AllMembers (λ k v. may_stand k v ≡ true) (members_in (full_form def c m e))
all_fit d id def c m e holds h = (
  refl,
  (
    refl,
    (
      texts_nest (map slug_text def.dependencies),
      (
        refl,
        (
          map_nests (codes "extra") d def.extra holds h.extra,
          (
            refl,
            (
              map_nests (codes "payload") d def.payload holds h.payload,
              (
                refl,
                (refl, (refl, (refl, (refl, (texts_nest def.routes, (refl, (texts_nest def.scopes, (map_nests (codes "tags") d def.tags holds h.tags, (refl, (refl, (refl, tt))))))))))),
              ),
            ),
          ),
        ),
      ),
    ),
  ),
)

keys_hold : (d : Document) (id : List ℕ) (def : TaskDef) (c m e : List ℕ) → Holds (KeyBreaks d) → IsDefinition d id def → Holds (KeyBreaks (full_form def c m e))
keys_hold d id def c m e holds h key broken = elim broken [
  | inl x ↦ false≢true (sym x.2 ∙ found_among (λ k v. may_stand k v ≡ true) (members_in (full_form def c m e)) key x.0 (all_fit d id def c m e holds h) x.1)
  | inr x ↦ none_lacks (full_form def c m e) (required (full_form def c m e)) key (refl, (refl, (refl, (refl, (refl, (refl, tt)))))) x.0 x.1
]

agree : (p w : List ℕ) → ¬ Disagree (Some (text p)) (Some (text (queue_name p w))) (Some (text w))
agree p w x =
    x.other (same_text (queue_name p w) x.queue x.queue_said
    ∙ ap (λ (z : List ℕ). queue_name z w) (sym (same_text p x.provisioner x.provisioner_said))
    ∙ ap (λ (z : List ℕ). queue_name x.provisioner z) (sym (same_text w x.worker x.worker_said)))

queue_holds : (d : Document) (id : List ℕ) (def : TaskDef) (c m e : List ℕ) → IsDefinition d id def → Holds (QueueBreaks (full_form def c m e))
queue_holds d id def c m e h =
    let q = h.queue in
    ok_three _ _ _ _ _ _ (λ ill. ill q.provisioner)
    (λ x. elim x [ inl ill ↦ ill (def.queue.provisioner_id, def.queue.worker_type, q.provisioner, q.worker, refl) | inr x ↦ agree def.queue.provisioner_id def.queue.worker_type x ])
    (λ ill. ill q.worker)

text_well : (Form : List ℕ → Type 0) (default t : List ℕ) (o : Option Document) → Form default → (¬ Ill (IsTextOf Form) o) → t ≡ text_or default o → ¬ Ill (IsTextOf Form) (Some (text t))
text_well Form default t o at_default well is =
    subst (λ (x : List ℕ). ¬ Ill (IsTextOf Form) (Some (text x))) (sym is) (text_form Form default o at_default well)

names_hold : (d : Document) (id : List ℕ) (def : TaskDef) (c m e : List ℕ) → Holds (NameBreaks d) → IsDefinition d id def → Holds (NameBreaks (full_form def c m e))
names_hold d id def c m e holds h =
    ok_two _ _ _ _
    (text_well IsProject (codes "none") def.project_id (get (codes "projectId") d) default_project (λ ill. holds (codes "projectId") (inl (refl, ill))) h.project_id)
    (text_well IsIdentifier (codes "-") def.scheduler_id (get (codes "schedulerId") d) default_scheduler (λ ill. holds (codes "schedulerId") (inr (refl, ill))) h.scheduler_id)

group_holds : (def : TaskDef) (c m e : List ℕ) → HasIds def → Holds (GroupBreaks (full_form def c m e))
group_holds def c m e w key broken = broken.1 (slug_of_uuid def.task_group_id w.group)

texts_well : (most : ℕ) (Form : List ℕ → Type 0) (ts : List (List ℕ)) (o : Option Document) → (¬ Ill (IsTextList most Form) o) → ts ≡ texts_in o → ¬ Ill (IsTextList most Form) (Some (text_list ts))
texts_well most Form ts o well is = subst (λ (x : List (List ℕ)). ¬ Ill (IsTextList most Form) (Some (text_list x))) (sym is) (texts_form most Form o well)

dependencies_hold : (d : Document) (id : List ℕ) (def : TaskDef) (c m e : List ℕ) → Holds (DependenciesBreak d) → IsDefinition d id def → Holds (DependenciesBreak (full_form def c m e))
dependencies_hold d id def c m e holds h key broken =
    let o = get (codes "dependencies") d in
    subst (λ (x : List (List ℕ)). ¬ Ill (IsTextList 100 IsSlug) (Some (text_list (map slug_text x)))) (sym h.dependencies)
    (ids_form 100 o (λ ill. holds (codes "dependencies") (refl, ill))) broken.1

some_at : {A : Type 0} (o : Option A) (a : A) → o ≡ Some a → IsSome o
some_at o a is = rw is refl

requires_hold : (def : TaskDef) (c m e : List ℕ) → Holds (RequiresBreaks (full_form def c m e))
requires_hold def c m e key broken = broken.1 (some_at (requires_of (requires_name def.requires_)) def.requires_ (requires_back def.requires_))

routes_hold : (d : Document) (id : List ℕ) (def : TaskDef) (c m e : List ℕ) → Holds (RoutesBreak d) → IsDefinition d id def → Holds (RoutesBreak (full_form def c m e))
routes_hold d id def c m e holds h key broken =
    texts_well 64 IsRoute def.routes (get (codes "routes") d) (λ ill. holds (codes "routes") (refl, ill)) h.routes broken.1

priority_holds : (def : TaskDef) (c m e : List ℕ) → Holds (PriorityBreaks (full_form def c m e))
priority_holds def c m e key broken = broken.1 (some_at (priority_of (priority_name def.priority)) def.priority (priority_back def.priority))

retries_hold : (d : Document) (id : List ℕ) (def : TaskDef) (c m e : List ℕ) → Holds (RetriesBreak d) → IsDefinition d id def → Holds (RetriesBreak (full_form def c m e))
retries_hold d id def c m e holds h key broken =
    subst (λ (n : ℕ). ¬ Ill IsRetries (Some (whole_number (pos n)))) (sym h.retries)
    (retries_form (get (codes "retries") d) (λ ill. holds (codes "retries") (refl, ill))) broken.1

moments_hold : (def : TaskDef) (c m e : List ℕ) → AreSaid def c m e → Holds (MomentBreaks (full_form def c m e))
moments_hold def c m e said =
    ok_three _ _ _ _ _ _ (λ ill. ill (def.created, said.at_created)) (λ ill. ill (def.deadline, said.at_deadline)) (λ ill. ill (def.expires, said.at_expires))

scopes_hold : (d : Document) (id : List ℕ) (def : TaskDef) (c m e : List ℕ) → Holds (ScopesBreak d) → IsDefinition d id def → Holds (ScopesBreak (full_form def c m e))
scopes_hold d id def c m e holds h key broken =
    texts_well 1000 IsScope def.scopes (get (codes "scopes") d) (λ ill. holds (codes "scopes") (refl, ill)) h.scopes broken.1

metadata_holds : (d : Document) (id : List ℕ) (def : TaskDef) (c m e : List ℕ) → Holds (MetadataBreaks d) → IsDefinition d id def → Holds (MetadataBreaks (full_form def c m e))
metadata_holds d id def c m e holds h =
    ok_two _ _ _ _ (λ ill. ill (def.metadata, refl))
    (subst (λ (x : Members). ¬ Ill AreTags (Some (object x))) (sym h.tags) (tags_form (get (codes "tags") d) (λ ill. holds (codes "tags") (inr (refl, ill)))))

-- ---- the rules on moments, and on the length

-- a text is the date-time of one moment
abbrev pub OneMoment : Type 0
OneMoment = (m n : ℕ) (t : List ℕ) → IsDateTime m t → IsDateTime n t → m ≡ n

deadline_kept : OneMoment → (d : Document) (id : List ℕ) (def : TaskDef) (c m e : List ℕ) → Holds (DeadlineBreaks d) → IsDefinition d id def → AreSaid def c m e → Holds (DeadlineBreaks (full_form def c m e))
deadline_kept one d id def c m e holds h said =
    let within : ¬ ¬ ((def.created < def.deadline) × (def.deadline ≤ def.created + 432000000)) =
    λ no. holds (codes "deadline") (refl, (def.created, def.deadline, h.created, h.deadline, no)) in
    deadline_holds (full_form def c m e) def.created def.deadline (only_at one c def.created said.at_created) (only_at one m def.deadline said.at_deadline)
    (less_stable def.created def.deadline (λ no. within (λ x. no x.0)), most_stable def.deadline (def.created + 432000000) (λ no. within (λ x. no x.1)))

expires_kept : OneMoment → (d : Document) (id : List ℕ) (def : TaskDef) (c m e : List ℕ) → Holds (ExpiresBreaks d) → IsDefinition d id def → AreSaid def c m e → Holds (ExpiresBreaks (full_form def c m e))
expires_kept one d id def c m e holds h said =
    expires_holds (full_form def c m e) def.deadline (Some def.expires) (only_at one m def.deadline said.at_deadline) (only_at one e def.expires said.at_expires)
    (less_stable def.deadline def.expires (λ no. holds (codes "expires") (refl, (def.deadline, def.expires, h.deadline, h.expires, no))))

-- a full form says no other definition
pub only_of : OneMoment → (other : List ℕ) (a b : TaskDef) (c m e : List ℕ) → AreSaid a c m e → IsDefinition (full_form a c m e) other a → IsDefinition (full_form a c m e) other b → a ≡ b
only_of one other a b c m e said x y =
    definition_one (full_form a c m e) other a b (only_at one c a.created said.at_created) (only_at one m a.deadline said.at_deadline)
    (λ n at. expires_same (full_form a c m e) a.deadline n (Some a.expires) (only_at one e a.expires said.at_expires) at) x y

length_kept : OneMoment → (d : Document) (id : List ℕ) (def : TaskDef) (c m e : List ℕ) → Holds (λ key. (key ≡ []) × IsTooLong d id) → IsDefinition d id def → HasIds def → AreSaid def c m e
    → Holds (λ key. (key ≡ []) × IsTooLong (full_form def c m e) id)
length_kept one d id def c m e holds h w said key broken =
    let long = broken.1 in
    let same : def ≡ long.def = only_of one id def long.def c m e said (definition_of d id id def c m e h w said) long.definition in
    holds [] (refl, record { def = def; full = long.full; definition = h; form = subst (λ (x : TaskDef). IsFullForm x long.full) (sym same) long.form; long = long.long })

says_again : OneMoment → (d : Document) (id : List ℕ) (def : TaskDef) (c m e : List ℕ) → Says d id def → HasIds def → AreSaid def c m e → Says (full_form def c m e) id def
says_again one d id def c m e says w said =
    let s = says.sound in
    let h = says.definition in
    record {
      sound = (keys_hold d id def c m e s.0 h, (queue_holds d id def c m e h, (names_hold d id def c m e s.1.1.0 h, (group_holds def c m e w, (dependencies_hold d id def c m e s.1.1.1.1.0 h, (requires_hold def c m e, (routes_hold d id def c m e s.1.1.1.1.1.1.0 h, (priority_holds def c m e, (retries_hold d id def c m e s.1.1.1.1.1.1.1.1.0 h, (moments_hold def c m e said, (deadline_kept one d id def c m e s.1.1.1.1.1.1.1.1.1.1.0 h said, (expires_kept one d id def c m e s.1.1.1.1.1.1.1.1.1.1.1.0 h said, (scopes_hold d id def c m e s.1.1.1.1.1.1.1.1.1.1.1.1.0 h, (metadata_holds d id def c m e s.1.1.1.1.1.1.1.1.1.1.1.1.1.0 h, (length_kept one d id def c m e s.1.1.1.1.1.1.1.1.1.1.1.1.1.1.0 h w said, tt)))))))))))))));
      definition = definition_of d id id def c m e h w said;
    }

-- the full form of what a document says, says the same
pub full_form_says : ((m : ℕ) (t : List ℕ) → m ≤ 253370764799999 → IsMomentText m t → IsDateTime m t) → OneMoment → (d : Document) (id : List ℕ) (def : TaskDef) (f : Document) → IsUuid4 id → Says d id def → IsFullForm def f
    → Says f id def
full_form_says read one d id def f u says form =
    subst (λ (x : Document). Says x id def) (sym form.is)
    (says_again one d id def form.created form.deadline form.expires says (has_ids d id def u says.definition) (said_of read d id def f says.definition form))

-- what two documents say is the same where its full forms are
pub full_forms_one : ((m : ℕ) (t : List ℕ) → m ≤ 253370764799999 → IsMomentText m t → IsDateTime m t) → OneMoment → (d e : Document) (id other : List ℕ) (a b : TaskDef) (f : Document) → IsUuid4 id → IsUuid4 other
    → IsDefinition d id a → IsDefinition e other b → IsFullForm a f → IsFullForm b f → a ≡ b
full_forms_one read one d e id other a b f u v x y fa fb =
    let sa = said_of read d id a f x fa in
    let sb = said_of read e other b f y fb in
    let mine = definition_of d id id a fa.created fa.deadline fa.expires x (has_ids d id a u x) sa in
    let theirs = definition_of e other id b fb.created fb.deadline fb.expires y (has_ids e other b v y) sb in
    only_of one id a b fa.created fa.deadline fa.expires sa mine (subst (λ (g : Document). IsDefinition g id b) (sym fb.is ∙ fa.is) theirs)
