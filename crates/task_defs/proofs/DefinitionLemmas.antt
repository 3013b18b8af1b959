-- A document says one definition at most, and a definition has one full form.
use Rattle.std.proofs.Common.{◌≡◌, ℕ, ◌<◌, ◌↔◌, Bool, true, false, IsTrue, MatchBool, List, [], codes, length, Option, Some, None, refl, sym, ap, ◌∙◌, subst, inl, inr}
use Rattle.std.proofs.lemmas.Bool.{false≢true}
use Rattle.farm_text.specs.Document.{Document, text, get, document_text}
use Rattle.farm_text.proofs.MomentLemmas.{IsMomentText-one}
use Rattle.task_types.specs.declared.names.TaskQueue.{TaskQueue}
use Rattle.task_types.specs.declared.objects.Metadata.{Metadata}
use Rattle.task_types.specs.declared.task_def.TaskDef.{TaskDef}
use Rattle.task_defs.specs.declared.fault.DefError.{DefError}
use Rattle.task_defs.specs.declared.fault.DefError.TheVariants.{Fault, NoMemory}
use Rattle.task_types.specs.Forms.{queue_name}
use Rattle.task_defs.specs.Faults.{Tells, Refuses}
use Rattle.task_defs.specs.Rules.{At, IsExpires, metadata_doc}
use Rattle.task_defs.specs.Definitions.{IsDefinition, IsFullForm, IsQueueOf, IsTooLong, Says, full_form, rules}
use Rattle.task_defs.specs.Parts.{IsOnlyAt, HeadHolds, TermsHold, SpanHolds, RestHolds, IsOnlyDefinition, IsLongForm}
use Rattle.task_defs.proofs.TimeLemmas.{only_same}
use Rattle.task_types.proofs.QueueNameLemmas.{queue_name_same}
use Rattle.task_defs.proofs.FaultLemmas.{first_one, tells_first}

some_text : (a b : List ℕ) → Some (text a) ≡ Some (text b) → a ≡ b
some_text a b e = cc

queue_of_parts : (a b : TaskQueue) → a.provisioner_id ≡ b.provisioner_id → a.worker_type ≡ b.worker_type → a ≡ b
queue_of_parts a b p w = rw (p, w) refl

pub queue_one : (p n w : Option Document) (a b : TaskQueue) → IsQueueOf p n w a → IsQueueOf p n w b → a ≡ b
queue_one p n w a b ha hb = elim ha.said [
  | inl x ↦ elim hb.said [
    | inl y ↦
        let same = queue_name_same a.provisioner_id a.worker_type b.provisioner_id b.worker_type ha.provisioner hb.provisioner (some_text _ _ (sym x ∙ y)) in
        queue_of_parts a b same.0 same.1
    | inr y ↦ let e : Some (text (queue_name a.provisioner_id a.worker_type)) ≡ None = sym x ∙ y.0 in absurd cc
  ]
  | inr x ↦ elim hb.said [
    | inl y ↦ let e : None ≡ Some (text (queue_name b.provisioner_id b.worker_type)) = sym x.0 ∙ y in absurd cc
    | inr y ↦ queue_of_parts a b (some_text _ _ (sym x.1 ∙ y.1)) (some_text _ _ (sym x.2 ∙ y.2))
  ]
]

metadata_of_parts : (a b : Metadata) → a.description ≡ b.description → a.name ≡ b.name → a.owner ≡ b.owner → a.source ≡ b.source → a ≡ b
metadata_of_parts a b d n o s = rw (d, n, o, s) refl

some_doc : (a b : Document) → Some a ≡ Some b → a ≡ b
some_doc a b e = cc

pub metadata_one : (a b : Metadata) → metadata_doc a ≡ metadata_doc b → a ≡ b
metadata_one a b e =
    let d : a.description ≡ b.description = cc in
    let n : a.name ≡ b.name = cc in
    let o : a.owner ≡ b.owner = cc in
    let s : a.source ≡ b.source = cc in
    metadata_of_parts a b d n o s

-- definitions with the same parts are the same
pub def_of_parts : (a b : TaskDef) → a.created ≡ b.created → a.deadline ≡ b.deadline → a.dependencies ≡ b.dependencies → a.expires ≡ b.expires → a.extra ≡ b.extra → a.metadata ≡ b.metadata
    → a.payload ≡ b.payload → a.priority ≡ b.priority → a.project_id ≡ b.project_id → a.queue ≡ b.queue → a.requires_ ≡ b.requires_ → a.retries ≡ b.retries → a.routes ≡ b.routes
    → a.scheduler_id ≡ b.scheduler_id → a.scopes ≡ b.scopes → a.tags ≡ b.tags → a.task_group_id ≡ b.task_group_id → a ≡ b
def_of_parts a b h1 h2 h3 h4 h5 h6 h7 h8 h9 h10 h11 h12 h13 h14 h15 h16 h17 = rw (h1, h2, h3, h4, h5, h6, h7, h8, h9, h10, h11, h12, h13, h14, h15, h16, h17) refl

-- a document says one definition, where its moments are one each
pub definition_one : (d : Document) (id : List ℕ) (a b : TaskDef) → IsOnlyAt (get (codes "created") d) a.created → IsOnlyAt (get (codes "deadline") d) a.deadline
    → ((n : ℕ) → IsExpires d a.deadline n → a.expires ≡ n) → IsDefinition d id a → IsDefinition d id b → a ≡ b
definition_one d id a b created deadline expires x y =
    let due : a.deadline ≡ b.deadline = only_same (codes "deadline") d a.deadline b.deadline deadline y.deadline in
    def_of_parts a b
    (only_same (codes "created") d a.created b.created created y.created)
    due
    (x.dependencies ∙ sym y.dependencies)
    (expires b.expires (subst (λ (m : ℕ). IsExpires d m b.expires) (sym due) y.expires))
    (x.extra ∙ sym y.extra)
    (metadata_one a.metadata b.metadata (some_doc _ _ (sym x.metadata ∙ y.metadata)))
    (x.payload ∙ sym y.payload)
    (x.priority ∙ sym y.priority)
    (x.project_id ∙ sym y.project_id)
    (queue_one _ _ _ a.queue b.queue x.queue y.queue)
    (x.requires_ ∙ sym y.requires_)
    (x.retries ∙ sym y.retries)
    (x.routes ∙ sym y.routes)
    (x.scheduler_id ∙ sym y.scheduler_id)
    (x.scopes ∙ sym y.scopes)
    (x.tags ∙ sym y.tags)
    (x.task_group_id ∙ sym y.task_group_id)

pub only_definition : (d : Document) (id : List ℕ) (def : TaskDef) → HeadHolds d → TermsHold d → SpanHolds d → RestHolds d → IsOnlyAt (get (codes "created") d) def.created
    → IsOnlyAt (get (codes "deadline") d) def.deadline → ((n : ℕ) → IsExpires d def.deadline n → def.expires ≡ n) → IsDefinition d id def → IsOnlyDefinition d id def
only_definition d id def head terms span rest created deadline expires definition = record {
  head = head;
  terms = terms;
  span = span;
  rest = rest;
  definition = definition;
  only = λ other h. definition_one d id def other created deadline expires definition h;
}

-- a definition has one full form
pub full_form_one : (def : TaskDef) (a b : Document) → IsFullForm def a → IsFullForm def b → a ≡ b
full_form_one def a b x y =
    let c = IsMomentText-one def.created x.created y.created x.created_text y.created_text in
    let d = IsMomentText-one def.deadline x.deadline y.deadline x.deadline_text y.deadline_text in
    let e = IsMomentText-one def.expires x.expires y.expires x.expires_text y.expires_text in
    x.is ∙ ap (λ (t : List ℕ). full_form def t x.deadline x.expires) c ∙ ap (λ (t : List ℕ). full_form def y.created t x.expires) d ∙ ap (full_form def y.created y.deadline) e ∙ sym y.is

-- a definition is too long where its one full form is
pub form_long : (def : TaskDef) (full : Document) (long : Bool) → IsFullForm def full → (IsTrue long ↔ (8388608 < length (document_text full))) → MatchBool long (IsLongForm def) (¬ IsLongForm def)
form_long def full true form is = record { full = full; form = form; long = is.0 refl }
form_long def full false form is = λ h. false≢true (is.1 (subst (λ (x : Document). 8388608 < length (document_text x)) (full_form_one def h.full full h.form form) h.long))

-- what is not too long is said
pub says : (d : Document) (id : List ℕ) (def : TaskDef) → IsOnlyDefinition d id def → (¬ IsLongForm def) → Says d id def
says d id def h short = record {
  sound = (
    h.head.keys,
    (
      h.head.queue,
      (
        h.head.names,
        (
          h.head.group,
          (
            h.terms.dependencies,
            (
              h.terms.asked,
              (
                h.terms.routes,
                (
                  h.terms.priority,
                  (
                    h.terms.retries,
                    (
                      h.span.moments,
                      (
                        h.span.deadline,
                        (
                          h.span.expires,
                          (
                            h.rest.scopes,
                            (
                              h.rest.metadata,
                              (
                                (λ key w.
                                    let long = w.1 in
                                    let other : IsFullForm def long.full = subst (λ (x : TaskDef). IsFullForm x long.full) (sym (h.only long.def long.definition)) long.form in
                                    short record { full = long.full; form = other; long = long.long }),
                                tt,
                              ),
                            ),
                          ),
                        ),
                      ),
                    ),
                  ),
                ),
              ),
            ),
          ),
        ),
      ),
    ),
  );
  definition = h.definition;
}

-- what is too long breaks rule 14 at the empty text
pub too_long : (d : Document) (id : List ℕ) (def : TaskDef) (e : DefError) → IsOnlyDefinition d id def → IsLongForm def → Tells 14 [] e → Refuses (rules d id) e
too_long d id def (Fault f) h long t =
    inr (h.head.keys, inr (h.head.queue, inr (h.head.names, inr (h.head.group, inr (h.terms.dependencies, inr (h.terms.asked, inr (h.terms.routes, inr (h.terms.priority, inr (h.terms.retries, inr (h.span.moments, inr (h.span.deadline, inr (h.span.expires, inr (h.rest.scopes, inr (h.rest.metadata, inl (tells_first 14 [] (At [] (IsTooLong d id)) (Fault f) t (first_one [] (IsTooLong d id) record { def = def; full = long.full; definition = h.definition; form = long.form; long = long.long }))))))))))))))))
too_long d id def NoMemory h long t = tt
