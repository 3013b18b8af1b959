-- The moments of a definition.
use Rattle.std.specs.Prelude.{MatchOption}
use Rattle.std.proofs.Common.{◌≡◌, ℕ, ◌+◌, ◌<◌, ◌≤◌, codes, List, Option, Some, None, refl, sym, ap, ◌∙◌, subst, inl, inr, arith}
use Rattle.farm_text.specs.DateTime.{IsDateTime}
use Rattle.farm_text.specs.Document.{Document, text, get}
use Rattle.task_defs.specs.declared.fault.DefError.{DefError}
use Rattle.task_defs.specs.Faults.{Holds, Tells, Breaks}
use Rattle.task_defs.specs.Rules.{MomentAt, IsExpires, DeadlineBreaks, ExpiresBreaks}
use Rattle.task_defs.specs.Parts.{IsOnlyAt, expires_by}
use Rattle.task_defs.proofs.FaultLemmas.{tells_first, first_one}

some_text : (v : Document) (s t : List ℕ) → v ≡ text s → Some v ≡ Some (text t) → t ≡ s
some_text v s t is e = let both : Some (text s) ≡ Some (text t) = ap Some (sym is) ∙ e in cc

pub only_is : (key : List ℕ) (d : Document) (m : ℕ) → IsOnlyAt (get key d) m → MomentAt key d m
only_is key d m h = (h.2.said, h.1 ∙ ap Some h.2.is, h.2.moment)

pub only_same : (key : List ℕ) (d : Document) (m n : ℕ) → IsOnlyAt (get key d) m → MomentAt key d n → m ≡ n
only_same key d m n h at =
    let same : at.0 ≡ h.2.said = some_text h.0 h.2.said at.0 h.2.is (sym h.1 ∙ at.1) in
    h.2.only n (subst (IsDateTime n) same at.2)

pub deadline_holds : (d : Document) (c m : ℕ) → IsOnlyAt (get (codes "created") d) c → IsOnlyAt (get (codes "deadline") d) m → (c < m) × (m ≤ c + 432000000) → Holds (DeadlineBreaks d)
deadline_holds d c m hc hm within key h =
    let w = h.1 in
    let ec : c ≡ w.0 = only_same (codes "created") d c w.0 hc w.2 in
    let em : m ≡ w.1 = only_same (codes "deadline") d m w.1 hm w.3 in
    w.4 (let a = within.0 in let b = within.1 in (omega arith, omega arith))

pub deadline_breaks : (d : Document) (c m : ℕ) (e : DefError) → IsOnlyAt (get (codes "created") d) c → IsOnlyAt (get (codes "deadline") d) m → (¬ ((c < m) × (m ≤ c + 432000000)))
    → Tells 11 (codes "deadline") e → Breaks 11 (DeadlineBreaks d) e
deadline_breaks d c m e hc hm beyond t =
    tells_first 11 (codes "deadline") (DeadlineBreaks d) e t (first_one (codes "deadline") _ (c, m, only_is (codes "created") d c hc, only_is (codes "deadline") d m hm, beyond))

-- what a reading of `expires` tells
abbrev pub SaysExpires : Document → Option ℕ → Type 0
SaysExpires d said = MatchOption said (get (codes "expires") d ≡ None) (IsOnlyAt (get (codes "expires") d))

pub expires_is : (d : Document) (deadline : ℕ) (said : Option ℕ) → SaysExpires d said → IsExpires d deadline (expires_by deadline said)
expires_is d deadline None h = inr (h, refl)
expires_is d deadline (Some m) h = inl (only_is (codes "expires") d m h)

pub expires_same : (d : Document) (deadline n : ℕ) (said : Option ℕ) → SaysExpires d said → IsExpires d deadline n → expires_by deadline said ≡ n
expires_same d deadline n None h at =
    elim at [ inl x ↦ let e : None ≡ Some (text x.0) = sym h ∙ x.1 in absurd cc | inr x ↦ sym x.1 ]
expires_same d deadline n (Some m) h at =
    elim at [ inl x ↦ only_same (codes "expires") d m n h x | inr x ↦ let e : Some h.0 ≡ None = sym h.1 ∙ x.0 in absurd cc ]

pub expires_holds : (d : Document) (deadline : ℕ) (said : Option ℕ) → IsOnlyAt (get (codes "deadline") d) deadline → SaysExpires d said → deadline < expires_by deadline said → Holds (ExpiresBreaks d)
expires_holds d deadline said hm h after key w =
    let em : deadline ≡ w.1.0 = only_same (codes "deadline") d deadline w.1.0 hm w.1.2 in
    let ee : expires_by deadline said ≡ w.1.1 = expires_same d deadline w.1.1 said h (subst (λ (x : ℕ). IsExpires d x w.1.1) (sym em) w.1.3) in
    w.1.4 (subst (λ (x : ℕ). x < w.1.1) em (subst (λ (x : ℕ). deadline < x) ee after))

pub expires_break : (d : Document) (deadline : ℕ) (said : Option ℕ) (e : DefError) → IsOnlyAt (get (codes "deadline") d) deadline → SaysExpires d said → (¬ (deadline < expires_by deadline said))
    → Tells 12 (codes "expires") e → Breaks 12 (ExpiresBreaks d) e
expires_break d deadline said e hm h before t =
    tells_first 12 (codes "expires") (ExpiresBreaks d) e t
    (first_one (codes "expires") _ (deadline, expires_by deadline said, only_is (codes "deadline") d deadline hm, expires_is d deadline said h, before))
