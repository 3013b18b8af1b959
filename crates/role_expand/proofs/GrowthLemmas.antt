-- How steps that add to a list add up.
use Rattle.std.proofs.Common.{◌≡◌, ◌≢◌, ℕ, zero, suc, ◌+◌, ◌<◌, ◌≤◌, ◌⊎◌, inl, inr, List, [], ◌∷◌, ◌++◌, length, take, drop, get_or, refl, sym, ap, ◌∙◌, subst, Contains, arith, length-append}
use Rattle.std.proofs.lemmas.List.{append_assoc, append-nil, take-append-drop, take_more}
use Rattle.std.proofs.lemmas.List.Elements.{Contains-append_left, Contains-append_cases, Contains-push, Contains-push_cases, Contains-get_or}
use Rattle.std.proofs.lemmas.List.Quantifiers.{all_pairs_push}
use Rattle.role_expand.specs.Roles.{HasHoleForm, FillsHole}
use Rattle.role_expand.specs.Growth.{Gains, Overflows, FailsToGain, IsFilledFrom}
use Rattle.role_expand.proofs.FillLemmas.{FillsHole-one}
use Rattle.role_expand.specs.declared.expansion.ExpandFault.{ExpandFault}
use Rattle.role_expand.specs.declared.expansion.ExpandFault.TheVariants.{TooMany, NoMemory}

abbrev Scopes : Type 0
Scopes = List (List ℕ)

pub Contains-one : {X : Type 0} (x y : X) → Contains (x ∷ []) y → x ≡ y
Contains-one x y (zero, lt, is) = is
Contains-one x y (suc k, lt, is) = absurd (omega (arith, lt))

pub Contains-take : {X : Type 0} (i : ℕ) (xs : List X) (s : X) → Contains (take i xs) s → Contains xs s
Contains-take i xs s h = subst (λ (t : List _). Contains t s) (take-append-drop i xs) (Contains-append_left (take i xs) (drop i xs) s h)

pub Contains-take_more : {X : Type 0} (i : ℕ) (xs : List X) (x s : X) → i < length xs → x ≡ get_or xs i x → Contains (take (i + 1) xs) s → Contains (take i xs) s ⊎ (x ≡ s)
Contains-take_more i xs x s lt is h = Contains-push_cases (take i xs) x s (subst (λ (t : List _). Contains t s) (take_more xs i x lt ∙ ap (λ y. take i xs ++ y ∷ []) (sym is)) h)

pub Contains-take_step : {X : Type 0} (i : ℕ) (xs : List X) (x s : X) → i < length xs → x ≡ get_or xs i x → Contains (take i xs) s → Contains (take (i + 1) xs) s
Contains-take_step i xs x s lt is h = subst (λ (t : List _). Contains t s) (sym (take_more xs i x lt)) (Contains-append_left (take i xs) _ s h)

pub Contains-take_last : {X : Type 0} (i : ℕ) (xs : List X) (x : X) → i < length xs → x ≡ get_or xs i x → Contains (take (i + 1) xs) x
Contains-take_last i xs x lt is = subst (λ (t : List _). Contains t x) (sym (take_more xs i x lt ∙ ap (λ y. take i xs ++ y ∷ []) (sym is))) (Contains-push (take i xs) x)

pub Contains-at : {X : Type 0} (i : ℕ) (xs : List X) (x : X) → i < length xs → x ≡ get_or xs i x → Contains xs x
Contains-at i xs x lt is = (i, lt, sym is)

module _ (most : ℕ) where
  pub gains_none : (P : List ℕ → Type 0) (old : Scopes) → ((s : List ℕ) → P s → Contains old s) → Gains most P old old
  gains_none P old there = record {
    since = [];
    is = sym (append-nil old);
    only = λ s h. absurd (omega (arith, h.1));
    all = there;
    once = λ h. h;
    few = λ h. h;
  }

  -- a scope that was not there
  pub gains_one : (old : Scopes) (scope : List ℕ) → (Contains old scope → ⊥) → length old < most → Gains most (λ s. s ≡ scope) old (old ++ scope ∷ [])
  gains_one old scope absent room = record {
    since = scope ∷ [];
    is = refl;
    only = λ s h. sym (Contains-one scope s h);
    all = λ s e. subst (λ (t : List ℕ). Contains (old ++ scope ∷ []) t) (sym e) (Contains-push old scope);
    once = λ h. all_pairs_push (λ (x y : List ℕ). x ≢ y) old scope h (λ k d lt e. absent (subst (λ (t : List ℕ). Contains old t) e (Contains-get_or old k d lt)));
    few = λ h. omega (arith, length-append old (scope ∷ []));
  }

  pub overflows_one : (old : Scopes) (scope : List ℕ) → (Contains old scope → ⊥) → most ≤ length old → Overflows most (λ s. s ≡ scope) old
  overflows_one old scope absent full = record {
    some = old ++ scope ∷ [];
    once = λ h. all_pairs_push (λ (x y : List ℕ). x ≢ y) old scope h (λ k d lt e. absent (subst (λ (t : List ℕ). Contains old t) e (Contains-get_or old k d lt)));
    only = λ s h. (elim (Contains-append_cases old (scope ∷ []) s h) [ inl there ↦ inl there | inr last ↦ inr (sym (Contains-one scope s last)) ]);
    many = omega (arith, length-append old (scope ∷ []));
  }

  -- a step after another
  pub gains_more : (P Q R : List ℕ → Type 0) (old mid new : Scopes) → Gains most P old mid → Gains most Q mid new
      → ((s : List ℕ) → P s → R s) → ((s : List ℕ) → Q s → R s) → ((s : List ℕ) → R s → P s ⊎ Q s) → Gains most R old new
  gains_more P Q R old mid new g h from_p from_q cases = record {
    since = g.since ++ h.since;
    is = h.is ∙ ap (λ (t : Scopes). t ++ h.since) g.is ∙ append_assoc old g.since h.since;
    only = λ s k. (elim (Contains-append_cases g.since h.since s k) [ inl a ↦ from_p s (g.only s a) | inr b ↦ from_q s (h.only s b) ]);
    all = λ s r. (elim (cases s r) [
      | inl p ↦ subst (λ (t : Scopes). Contains t s) (sym h.is) (Contains-append_left mid h.since s (g.all s p))
      | inr q ↦ h.all s q
    ]);
    once = λ k. h.once (g.once k);
    few = λ k. h.few (g.few k);
  }

  pub overflows_after : (P Q R : List ℕ → Type 0) (old mid : Scopes) → Gains most P old mid → Overflows most Q mid
      → ((s : List ℕ) → P s → R s) → ((s : List ℕ) → Q s → R s) → Overflows most R old
  overflows_after P Q R old mid g h from_p from_q = record {
    some = h.some;
    once = λ k. h.once (g.once k);
    only = λ s k. (elim (h.only s k) [
      | inl there ↦ (elim (Contains-append_cases old g.since s (subst (λ (t : Scopes). Contains t s) g.is there)) [ inl a ↦ inl a | inr b ↦ inr (from_p s (g.only s b)) ])
      | inr q ↦ inr (from_q s q)
    ]);
    many = h.many;
  }

  pub overflows_wider : (P R : List ℕ → Type 0) (old : Scopes) → Overflows most P old → ((s : List ℕ) → P s → R s) → Overflows most R old
  overflows_wider P R old h from_p = record {
    some = h.some;
    once = h.once;
    only = λ s k. (elim (h.only s k) [ inl there ↦ inl there | inr p ↦ inr (from_p s p) ]);
    many = h.many;
  }

  pub fails_after : (P Q R : List ℕ → Type 0) (old mid : Scopes) (fault : ExpandFault) → Gains most P old mid → FailsToGain most Q mid fault
      → ((s : List ℕ) → P s → R s) → ((s : List ℕ) → Q s → R s) → FailsToGain most R old fault
  fails_after P Q R old mid TooMany g h from_p from_q = overflows_after P Q R old mid g h from_p from_q
  fails_after P Q R old mid NoMemory g h from_p from_q = tt

  pub fails_wider : (P R : List ℕ → Type 0) (old : Scopes) (fault : ExpandFault) → FailsToGain most P old fault → ((s : List ℕ) → P s → R s) → FailsToGain most R old fault
  fails_wider P R old TooMany h from_p = overflows_wider P R old h from_p
  fails_wider P R old NoMemory h from_p = tt

  pub gains_same : (P R : List ℕ → Type 0) (old new : Scopes) → Gains most P old new → ((s : List ℕ) → P s → R s) → ((s : List ℕ) → R s → P s) → Gains most R old new
  gains_same P R old new g to from = record { since = g.since; is = g.is; only = λ s h. to s (g.only s h); all = λ s r. g.all s (from s r); once = g.once; few = g.few }

module _ (most : ℕ) (xs : List (List ℕ)) (i : ℕ) (x y : List ℕ) (lt : i < length xs) (is : x ≡ get_or xs i x) (copy : y ≡ x) where
  -- one more scope of a list
  pub gains_listed : (old mid new : Scopes) → Gains most (Contains (take i xs)) old mid → Gains most (λ s. s ≡ y) mid new → Gains most (Contains (take (i + 1) xs)) old new
  gains_listed old mid new g h = gains_more most (Contains (take i xs)) (λ s. s ≡ y) (Contains (take (i + 1) xs)) old mid new g h
      (λ s k. Contains-take_step i xs x s lt is k)
      (λ s e. subst (λ (t : List ℕ). Contains (take (i + 1) xs) t) (sym (e ∙ copy)) (Contains-take_last i xs x lt is))
      (λ s k. (elim (Contains-take_more i xs x s lt is k) [ inl a ↦ inl a | inr e ↦ inr (sym e ∙ sym copy) ]))

  pub fails_listed : (old mid : Scopes) (fault : ExpandFault) → Gains most (Contains (take i xs)) old mid → FailsToGain most (λ s. s ≡ y) mid fault → FailsToGain most (Contains xs) old fault
  fails_listed old mid fault g h = fails_after most (Contains (take i xs)) (λ s. s ≡ y) (Contains xs) old mid fault g h
      (λ s k. Contains-take i xs s k)
      (λ s e. subst (λ (t : List ℕ). Contains xs t) (sym (e ∙ copy)) (Contains-at i xs x lt is))

module _ (most : ℕ) (xs : List (List ℕ)) (parameter : List ℕ) (i : ℕ) (x y : List ℕ) (lt : i < length xs) (is : x ≡ get_or xs i x) (form : HasHoleForm x) (filled : FillsHole parameter x y) where
  -- one more scope of a list, filled
  pub gains_filled : (old mid new : Scopes) → Gains most (IsFilledFrom (take i xs) parameter) old mid → Gains most (λ s. s ≡ y) mid new → Gains most (IsFilledFrom (take (i + 1) xs) parameter) old new
  gains_filled old mid new g h = gains_more most (IsFilledFrom (take i xs) parameter) (λ s. s ≡ y) (IsFilledFrom (take (i + 1) xs) parameter) old mid new g h
      (λ s k. (k.0, Contains-take_step i xs x k.0 lt is k.1, k.2))
      (λ s e. (x, Contains-take_last i xs x lt is, subst (λ (t : List ℕ). FillsHole parameter x t) (sym e) filled))
      (λ s k. (elim (Contains-take_more i xs x k.0 lt is k.1) [
        | inl a ↦ inl (k.0, a, k.2)
        | inr e ↦ inr (FillsHole-one parameter x s y form (subst (λ (t : List ℕ). FillsHole parameter t s) (sym e) k.2) filled)
      ]))

  pub fails_filled : (old mid : Scopes) (fault : ExpandFault) → Gains most (IsFilledFrom (take i xs) parameter) old mid → FailsToGain most (λ s. s ≡ y) mid fault → FailsToGain most (IsFilledFrom xs parameter) old fault
  fails_filled old mid fault g h = fails_after most (IsFilledFrom (take i xs) parameter) (λ s. s ≡ y) (IsFilledFrom xs parameter) old mid fault g h
      (λ s k. (k.0, Contains-take i xs k.0 k.1, k.2))
      (λ s e. (x, Contains-at i xs x lt is, subst (λ (t : List ℕ). FillsHole parameter x t) (sym e) filled))
