-- The queue of a definition: what a search for the parts of its name tells.
use Rattle.std.specs.Prelude.{MatchOption, MatchResult}
use Rattle.std.proofs.Common.{◌≡◌, ◌⊎◌, ℕ, codes, List, Option, Some, None, Result, Bor, refl, sym, ap, ◌∙◌, subst, inl, inr}
use Rattle.farm_text.specs.Document.{Document, text, get}
use Rattle.task_types.specs.declared.names.TaskQueue.{TaskQueue}
use Rattle.task_defs.specs.declared.fault.DefError.{DefError}
use Rattle.task_defs.specs.Values.{IsTextOf, Ill, IsQueue}
use Rattle.task_defs.specs.Faults.{Holds, Tells, Breaks}
use Rattle.task_defs.specs.Rules.{PartsBreak, Disagree}
use Rattle.task_defs.specs.Definitions.{IsQueueOf}
use Rattle.task_defs.proofs.FaultLemmas.{tells_first, ok_three, second_of_three, third_of_three}
use Rattle.task_types.specs.Forms.{IsIdentifier, queue_name}
use Rattle.task_types.proofs.QueueNameLemmas.{queue_name_same}

some_doc : {a b : Document} → Some a ≡ Some b → a ≡ b
some_doc e = cc

text_same : (a b : List ℕ) → Some (text a) ≡ Some (text b) → a ≡ b
text_same a b e = cc

abbrev Parts : Type 0
Parts = Bor (List ℕ) × Bor (List ℕ)

-- what a search for the parts of a named queue tells
abbrev pub Names : Option Document → Option Parts → Type 0
Names name found = MatchOption found (name ≡ None) (λ x. (name ≡ Some (text (queue_name x.0.now x.1.now))) × IsIdentifier x.0.now × IsIdentifier x.1.now)

queue_well : (name : Option Document) (found : Option Parts) → Names name found → ¬ Ill (IsTextOf IsQueue) name
queue_well name None h ill = subst (Ill (IsTextOf IsQueue)) h ill
queue_well name (Some x) h ill = subst (Ill (IsTextOf IsQueue)) h.0 ill (x.0.now, x.1.now, h.1, h.2, refl)

part_well : (P : Document) (p : List ℕ) → P ≡ text p → IsIdentifier p → ¬ Ill (IsTextOf IsIdentifier) (Some P)
part_well P p is form ill = ill (subst (IsTextOf IsIdentifier) (sym is) form)

no_disagreement : (P W : Document) (p w : List ℕ) (name : Option Document) (found : Option Parts) → P ≡ text p → W ≡ text w → Names name found
    → MatchOption found (Unit {0}) (λ x. (x.0.now ≡ p) × (x.1.now ≡ w)) → ¬ Disagree (Some P) name (Some W)
no_disagreement P W p w name None hp hw named same h = absurd (let e : None ≡ Some (text h.queue) = sym named ∙ h.queue_said in cc)
no_disagreement P W p w name (Some x) hp hw named same h =
    let provisioner : h.provisioner ≡ p = text_same h.provisioner p (sym h.provisioner_said ∙ ap Some hp) in
    let worker : h.worker ≡ w = text_same h.worker w (sym h.worker_said ∙ ap Some hw) in
    let queue : h.queue ≡ queue_name x.0.now x.1.now = text_same h.queue (queue_name x.0.now x.1.now) (sym h.queue_said ∙ named.0) in
    h.other (queue ∙ ap (λ (z : List ℕ). queue_name z x.1.now) (same.0 ∙ sym provisioner) ∙ ap (λ (z : List ℕ). queue_name h.provisioner z) (same.1 ∙ sym worker))

said_by : (P W : Document) (p w : List ℕ) (name : Option Document) (found : Option Parts) → P ≡ text p → W ≡ text w → Names name found → MatchOption found (Unit {0}) (λ x. (x.0.now ≡ p) × (x.1.now ≡ w))
    → (name ≡ Some (text (queue_name p w))) ⊎ ((name ≡ None) × (Some P ≡ Some (text p)) × (Some W ≡ Some (text w)))
said_by P W p w name None hp hw named same = inr (named, ap Some hp, ap Some hw)
said_by P W p w name (Some x) hp hw named same =
    inl (named.0 ∙ ap (λ (z : List ℕ). Some (text (queue_name z x.1.now))) same.0 ∙ ap (λ (z : List ℕ). Some (text (queue_name p z))) same.1)

pub both_agree : (P W : Document) (p w : List ℕ) (name : Option Document) (found : Option Parts) (q : TaskQueue) → P ≡ text p → IsIdentifier p → W ≡ text w → IsIdentifier w → Names name found
    → MatchOption found (Unit {0}) (λ x. (x.0.now ≡ p) × (x.1.now ≡ w)) → q ≡ record { provisioner_id = p; worker_type = w }
    → Holds (PartsBreak (Some P) name (Some W)) × IsQueueOf (Some P) name (Some W) q
both_agree P W p w name found q hp fp hw fw named same is = (
  ok_three _ _ _ _ _ _ (part_well P p hp fp) (λ h. elim h [ inl x ↦ queue_well name found named x | inr x ↦ no_disagreement P W p w name found hp hw named same x ]) (part_well W w hw fw),
  subst (λ (z : TaskQueue). IsQueueOf (Some P) name (Some W) z) (sym is) record { provisioner = fp; worker = fw; said = said_by P W p w name found hp hw named same },
)

pub they_disagree : (P W : Document) (p w : List ℕ) (name : Option Document) (found : Option Parts) (e : DefError) → P ≡ text p → IsIdentifier p → W ≡ text w → IsIdentifier w → Names name found
    → MatchOption found ⊥ (λ x. ¬ ((x.0.now ≡ p) × (x.1.now ≡ w))) → Tells 2 (codes "taskQueueId") e → Breaks 2 (PartsBreak (Some P) name (Some W)) e
they_disagree P W p w name None e hp fp hw fw named differ t = absurd differ
they_disagree P W p w name (Some x) e hp fp hw fw named differ t =
    tells_first 2 (codes "taskQueueId") (PartsBreak (Some P) name (Some W)) e t
    (second_of_three _ _ _ _ _ _ refl (part_well P p hp fp) (inr record {
      queue = queue_name x.0.now x.1.now;
      provisioner = p;
      worker = w;
      queue_said = named.0;
      provisioner_said = ap Some hp;
      worker_said = ap Some hw;
      provisioner_form = fp;
      worker_form = fw;
      other = λ same. differ (queue_name_same x.0.now x.1.now p w named.1 fp same);
    }))

pub worker_ill : (P W : Document) (p : List ℕ) (name : Option Document) (found : Option Parts) (e : DefError) → P ≡ text p → IsIdentifier p → ¬ IsTextOf IsIdentifier W → Names name found
    → Tells 2 (codes "workerType") e → Breaks 2 (PartsBreak (Some P) name (Some W)) e
worker_ill P W p name found e hp fp bad named t =
    tells_first 2 (codes "workerType") (PartsBreak (Some P) name (Some W)) e t
    (third_of_three _ _ _ _ _ _ (part_well P p hp fp)
    (λ h. elim h [ inl x ↦ queue_well name found named x | inr x ↦ bad (subst (IsTextOf IsIdentifier) (let same : text x.worker ≡ W = some_doc (sym x.worker_said) in same) x.worker_form) ]) bad)

pub whole_well : (N : Document) (x : Parts) (q : TaskQueue) → N ≡ text (queue_name x.0.now x.1.now) → IsIdentifier x.0.now → IsIdentifier x.1.now → q ≡ record { provisioner_id = x.0.now; worker_type = x.1.now }
    → Holds (PartsBreak None (Some N) None) × IsQueueOf None (Some N) None q
whole_well N x q is fp fw made = (
  ok_three _ _ _ _ _ _ (λ h. h) (λ h. elim h [ inl y ↦ queue_well (Some N) (Some x) (ap Some is, fp, fw) y | inr y ↦ let e : None ≡ Some (text y.provisioner) = y.provisioner_said in absurd cc ]) (λ h. h),
  subst (λ (z : TaskQueue). IsQueueOf None (Some N) None z) (sym made) record { provisioner = fp; worker = fw; said = inl (ap Some is) },
)

-- what is told of three values is told of the document that has them at its keys
abbrev Told : Option Document → Option Document → Option Document → Result TaskQueue DefError → Type 0
Told p n w r = MatchResult r (λ q. Holds (PartsBreak p n w) × IsQueueOf p n w q) (Breaks 2 (PartsBreak p n w))

pub queue_by : (d : Document) (p n w : Option Document) (r : Result TaskQueue DefError) → get (codes "provisionerId") d ≡ p → get (codes "taskQueueId") d ≡ n → get (codes "workerType") d ≡ w
    → Told p n w r → Told (get (codes "provisionerId") d) (get (codes "taskQueueId") d) (get (codes "workerType") d) r
queue_by d p n w r ep en ew h =
    subst (λ (x : Option Document). Told x (get (codes "taskQueueId") d) (get (codes "workerType") d) r) (sym ep)
    (subst (λ (x : Option Document). Told p x (get (codes "workerType") d) r) (sym en) (subst (λ (x : Option Document). Told p n x r) (sym ew) h))
