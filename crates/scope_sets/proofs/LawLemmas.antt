-- Laws of satisfying, of sets and of what is missing.
use Rattle.std.proofs.Common.{◌≡◌, ℕ, zero, suc, Bool, true, false, ◌&&◌, cond, ◌⊎◌, inl, inr, List, [], ◌∷◌, ◌++◌, Some, None, refl, sym, ap, ◌∙◌, subst, All, Any, Contains, arith}
use Rattle.std.proofs.lemmas.Bool.{and_parts, and_from, or_cases, or_parts, or_left, or_right, false≢true}
use Rattle.std.proofs.lemmas.Cmp.{nat_list_cmp_total}
use Rattle.std.proofs.lemmas.List.{append_assoc, append-nil, same_from_push}
use Rattle.std.proofs.lemmas.List.Elements.{All-nil, All-cons, All-head, All-tail, All-append}
use Rattle.scope_sets.specs.Scopes.{star, Satisfies, covers, EndsWithTwoStars, IsBefore, IsRising}
use Rattle.scope_sets.specs.Expressions.{Expression, one, all_of, any_of, Members, no_members, member, members_of, holds, all_hold, some_holds, reduced, lacking, each_reduced, missing, HasNoEmptyAllOf, NoneHasEmptyAllOf, scopes_in, scopes_in_each}
use Rattle.scope_sets.proofs.OrderLemmas.{Equal-itself}
use Rattle.scope_sets.proofs.SatisfyingLemmas.{Any-from_covers, covers_by}

-- ---- satisfying

-- a list is empty, or has a last element
last_or_none : (xs : List ℕ) → (xs ≡ []) ⊎ ((front : List ℕ) × (x : ℕ) × (xs ≡ front ++ x ∷ []))
last_or_none [] = inl refl
last_or_none (x ∷ xs) = by_rest (last_or_none xs)
  where
    by_rest : (xs ≡ []) ⊎ ((front : List ℕ) × (y : ℕ) × (xs ≡ front ++ y ∷ [])) → (x ∷ xs ≡ []) ⊎ ((front : List ℕ) × (y : ℕ) × (x ∷ xs ≡ front ++ y ∷ []))
    by_rest (inl e) = inr ([], x, ap (λ t. x ∷ t) e)
    by_rest (inr h) = inr (x ∷ h.0, h.1, ap (λ t. x ∷ t) h.2)

pub Satisfies-trans : (a b c : List ℕ) → ¬ EndsWithTwoStars a → Satisfies a b → Satisfies b c → Satisfies a c
Satisfies-trans a b c plain (inl e) k = subst (λ (z : List ℕ). Satisfies z c) (sym e) k
Satisfies-trans a b c plain (inr h) (inl e) = inr (h.0, h.1, h.2, sym e ∙ h.3)
Satisfies-trans a b c plain (inr (p, r, a_is, b_is)) (inr (q, t, b_star, c_is)) =
    elim (last_or_none r) [
      | inl none ↦
          let whole : p ≡ q ++ star ∷ [] = sym (append-nil p) ∙ sym (ap (λ (z : List ℕ). p ++ z) none) ∙ sym b_is ∙ b_star in
          absurd (plain (q, a_is ∙ ap (λ (z : List ℕ). z ++ star ∷ []) whole ∙ append_assoc q (star ∷ []) (star ∷ [])))
      | inr some ↦
          let ends : (p ++ some.0) ++ some.1 ∷ [] ≡ q ++ star ∷ [] = append_assoc p some.0 (some.1 ∷ []) ∙ sym (ap (λ (z : List ℕ). p ++ z) some.2) ∙ sym b_is ∙ b_star in
          let front : p ++ some.0 ≡ q = (same_from_push _ _ _ _ ends).0 in
          inr (p, some.0 ++ t, a_is, c_is ∙ ap (λ (z : List ℕ). z ++ t) (sym front) ∙ append_assoc p some.0 t)
    ]

-- ---- sets

pub Contains-here : {X : Type 0} (x : X) (xs : List X) → Contains (x ∷ xs) x
Contains-here x xs = (0, omega arith, refl)

pub Contains-later : {X : Type 0} (x y : X) (xs : List X) → Contains xs y → Contains (x ∷ xs) y
Contains-later x y xs h = (suc h.0, omega (arith, h.1), h.2)

pub Contains-split : {X : Type 0} (x y : X) (xs : List X) → Contains (x ∷ xs) y → (x ≡ y) ⊎ Contains xs y
Contains-split x y xs (zero, lt, is) = inl is
Contains-split x y xs (suc k, lt, is) = inr (k, omega (arith, lt), is)

pub Contains-none : {X : Type 0} (x : X) → Contains [] x → ⊥
Contains-none x h = absurd (omega (arith, h.1))

pub rising_head : (x y : List ℕ) (xs : List (List ℕ)) → IsRising (x ∷ xs) → Contains xs y → IsBefore x y
rising_head x y xs up h = subst (λ (z : List ℕ). IsBefore x z) h.2 (up 0 (suc h.0) y (omega arith) (omega (arith, h.1)))

pub rising_tail : (x : List ℕ) (xs : List (List ℕ)) → IsRising (x ∷ xs) → IsRising xs
rising_tail x xs up = λ i j d lt in_range. up (suc i) (suc j) d (omega arith) (omega arith)

not_before_itself : (x : List ℕ) → IsBefore x x → ⊥
not_before_itself x e = let same = Equal-itself x in cc

not_both_before : (x y : List ℕ) → IsBefore x y → IsBefore y x → ⊥
not_both_before x y e f = not_before_itself x (nat_list_cmp_total.trans x y x e f)

same_members : List (List ℕ) → List (List ℕ) → Type 0
same_members xs ys = (s : List ℕ) → Contains xs s → Contains ys s

-- the least members are the same
same_head : (x y : List ℕ) (xs ys : List (List ℕ)) → IsRising (x ∷ xs) → IsRising (y ∷ ys) → Contains (y ∷ ys) x → Contains (x ∷ xs) y → x ≡ y
same_head x y xs ys up vp h k =
    elim (Contains-split y x ys h) [
      | inl e ↦ sym e
      | inr far ↦ elim (Contains-split x y xs k) [
        | inl e ↦ e
        | inr away ↦ absurd (not_both_before x y (rising_head x y xs up away) (rising_head y x ys vp far))
      ]
    ]

tail_members : (x y s : List ℕ) (xs ys : List (List ℕ)) → IsRising (x ∷ xs) → x ≡ y → Contains xs s → Contains (y ∷ ys) s → Contains ys s
tail_members x y s xs ys up same h k =
    elim (Contains-split y s ys k) [
      | inl e ↦ absurd (not_before_itself s (subst (λ (z : List ℕ). IsBefore z s) (same ∙ e) (rising_head x s xs up h)))
      | inr far ↦ far
    ]

-- a rising list is fixed by its members
pub same_from_members : (xs ys : List (List ℕ)) → IsRising xs → IsRising ys → ((s : List ℕ) → Contains xs s → Contains ys s) → ((s : List ℕ) → Contains ys s → Contains xs s) → xs ≡ ys
same_from_members [] [] up vp f g = refl
same_from_members [] (y ∷ ys) up vp f g = absurd (Contains-none y (g y (Contains-here y ys)))
same_from_members (x ∷ xs) [] up vp f g = absurd (Contains-none x (f x (Contains-here x xs)))
same_from_members (x ∷ xs) (y ∷ ys) up vp f g =
    let same : x ≡ y = same_head x y xs ys up vp (f x (Contains-here x xs)) (g y (Contains-here y ys)) in
    let rest : xs ≡ ys = same_from_members xs ys (rising_tail x xs up) (rising_tail y ys vp)
    (λ s h. tail_members x y s xs ys up same h (f s (Contains-later x s xs h)))
    (λ s h. tail_members y x s ys xs vp (sym same) h (g s (Contains-later y s ys h))) in
    ap (λ (z : List ℕ). z ∷ xs) same ∙ ap (λ (zs : List (List ℕ)). y ∷ zs) rest

-- ---- expressions

pub covers_more : (set joined : List (List ℕ)) (s : List ℕ) → ((t : List ℕ) → Contains set t → Contains joined t) → covers set s ≡ true → covers joined s ≡ true
covers_more set joined s within e =
    let h = Any-from_covers set s e in
    covers_by joined h.1 s (within h.1 (h.0, h.2, h.3)) h.4

pub all_hold-All : (set : List (List ℕ)) (es : List Expression) → all_hold set (members_of es) ≡ true → All (λ e. holds set e ≡ true) es
all_hold-All set [] h = All-nil (λ e. holds set e ≡ true)
all_hold-All set (e ∷ es) h = let parts = and_parts _ _ h in All-cons (λ e. holds set e ≡ true) e es parts.0 (all_hold-All set es parts.1)

pub all_hold-from_All : (set : List (List ℕ)) (es : List Expression) → All (λ e. holds set e ≡ true) es → all_hold set (members_of es) ≡ true
all_hold-from_All set [] h = refl
all_hold-from_All set (e ∷ es) h = and_from _ _ (All-head (λ e. holds set e ≡ true) e es h) (all_hold-from_All set es (All-tail (λ e. holds set e ≡ true) e es h))

pub some_holds-Any : (set : List (List ℕ)) (es : List Expression) → some_holds set (members_of es) ≡ true → Any (λ e. holds set e ≡ true) es
some_holds-Any set [] h = absurd (false≢true h)
some_holds-Any set (e ∷ es) h =
    elim (or_cases _ _ h) [
      | inl here ↦ (0, e, omega arith, refl, here)
      | inr later ↦ let found = some_holds-Any set es later in (suc found.0, found.1, omega (arith, found.2), found.3, found.4)
    ]

pub some_holds-from_Any : (set : List (List ℕ)) (es : List Expression) → Any (λ e. holds set e ≡ true) es → some_holds set (members_of es) ≡ true
some_holds-from_Any set [] h = absurd (omega (arith, h.2))
some_holds-from_Any set (e ∷ es) (zero, x, lt, is, h) = or_left _ _ (ap (holds set) is ∙ h)
some_holds-from_Any set (e ∷ es) (suc k, x, lt, is, h) = or_right _ _ (some_holds-from_Any set es (k, x, omega (arith, lt), is, h))

module _ (set joined : List (List ℕ)) (within : (t : List ℕ) → Contains set t → Contains joined t) where
  mutual
    pub holds_more : (e : Expression) → holds set e ≡ true → holds joined e ≡ true
    holds_more (one s) h = covers_more set joined s within h
    holds_more (all_of es) h = all_hold_with_more es h
    holds_more (any_of es) h = some_holds_with_more es h

    all_hold_with_more : (es : Members) → all_hold set es ≡ true → all_hold joined es ≡ true
    all_hold_with_more no_members h = refl
    all_hold_with_more (member e es) h = let parts = and_parts _ _ h in and_from _ _ (holds_more e parts.0) (all_hold_with_more es parts.1)

    some_holds_with_more : (es : Members) → some_holds set es ≡ true → some_holds joined es ≡ true
    some_holds_with_more no_members h = absurd (false≢true h)
    some_holds_with_more (member e es) h =
        elim (or_cases _ _ h) [
          | inl here ↦ or_left _ _ (holds_more e here)
          | inr later ↦ or_right _ _ (some_holds_with_more es later)
        ]

module _ (set more joined : List (List ℕ)) (within : (t : List ℕ) → Contains set t → Contains joined t) (within' : (t : List ℕ) → Contains more t → Contains joined t) where
  lacking_step : (e : Expression) (es : Members) (b : Bool) → holds set e ≡ b → all_hold more (cond b (lacking set es) (member (reduced set e) (lacking set es))) ≡ true
      → (holds set e ≡ false → holds more (reduced set e) ≡ true → holds joined e ≡ true) → (all_hold more (lacking set es) ≡ true → all_hold joined es ≡ true) → (holds joined e && all_hold joined es) ≡ true
  lacking_step e es true is h first rest = and_from _ _ (holds_more set joined within e is) (rest h)
  lacking_step e es false is h first rest = let parts = and_parts _ _ h in and_from _ _ (first is parts.0) (rest parts.1)

  mutual
    -- what holds of a reduced expression makes the expression hold
    pub reduced_suffices : (e : Expression) → holds set e ≡ false → holds more (reduced set e) ≡ true → holds joined e ≡ true
    reduced_suffices (one s) none h = covers_more more joined s within' h
    reduced_suffices (all_of es) none h = lacking_suffices es h
    reduced_suffices (any_of es) none h = each_suffices es none h

    lacking_suffices : (es : Members) → all_hold more (lacking set es) ≡ true → all_hold joined es ≡ true
    lacking_suffices no_members h = refl
    lacking_suffices (member e es) h = lacking_step e es (holds set e) refl h (reduced_suffices e) (lacking_suffices es)

    each_suffices : (es : Members) → some_holds set es ≡ false → some_holds more (each_reduced set es) ≡ true → some_holds joined es ≡ true
    each_suffices no_members none h = absurd (false≢true h)
    each_suffices (member e es) none h =
        let lacks = or_parts _ _ none in
        elim (or_cases _ _ h) [
          | inl here ↦ or_left _ _ (reduced_suffices e lacks.0 here)
          | inr later ↦ or_right _ _ (each_suffices es lacks.1 later)
        ]

-- what `missing` says where it gives something
missing_gives : (b : Bool) (r lack : Expression) → cond b None (Some r) ≡ Some lack → (b ≡ false) × (r ≡ lack)
missing_gives true r lack e = absurd (cc)
missing_gives false r lack e = (refl, cc)

pub missing_suffices : (set more joined : List (List ℕ)) (e lack : Expression) → ((t : List ℕ) → Contains set t → Contains joined t) → ((t : List ℕ) → Contains more t → Contains joined t)
    → missing set e ≡ Some lack → holds more lack ≡ true → holds joined e ≡ true
missing_suffices set more joined e lack within within' is h =
    let parts = missing_gives (holds set e) (reduced set e) lack is in
    reduced_suffices set more joined within within' e parts.0 (rw parts.1 h)

module _ (set : List (List ℕ)) where
  some_left : (es : Members) → NoneHasEmptyAllOf (lacking set es) → all_hold set es ≡ false → HasNoEmptyAllOf (all_of (lacking set es))
  some_left no_members h none = absurd (false≢true (sym none))
  some_left (member e es) h none = some_left_by e es (holds set e) h none (some_left es)
    where
      some_left_by : (e : Expression) (es : Members) (b : Bool) → NoneHasEmptyAllOf (cond b (lacking set es) (member (reduced set e) (lacking set es))) → (b && all_hold set es) ≡ false
          → (NoneHasEmptyAllOf (lacking set es) → all_hold set es ≡ false → HasNoEmptyAllOf (all_of (lacking set es)))
          → HasNoEmptyAllOf (all_of (cond b (lacking set es) (member (reduced set e) (lacking set es))))
      some_left_by e es true h none more = more h none
      some_left_by e es false h none more = h

  lacking_full_by : (e : Expression) (es : Members) (b : Bool) → holds set e ≡ b → (holds set e ≡ false → HasNoEmptyAllOf (reduced set e)) → NoneHasEmptyAllOf (lacking set es)
      → NoneHasEmptyAllOf (cond b (lacking set es) (member (reduced set e) (lacking set es)))
  lacking_full_by e es true is first rest = rest
  lacking_full_by e es false is first rest = (first is, rest)

  mutual
    reduced_full : (e : Expression) → holds set e ≡ false → HasNoEmptyAllOf (reduced set e)
    reduced_full (one s) none = tt
    reduced_full (all_of es) none = some_left es (lacking_full es) none
    reduced_full (any_of es) none = each_full es none

    lacking_full : (es : Members) → NoneHasEmptyAllOf (lacking set es)
    lacking_full no_members = tt
    lacking_full (member e es) = lacking_full_by e es (holds set e) refl (reduced_full e) (lacking_full es)

    each_full : (es : Members) → some_holds set es ≡ false → NoneHasEmptyAllOf (each_reduced set es)
    each_full no_members none = tt
    each_full (member e es) none = let lacks = or_parts _ _ none in (reduced_full e lacks.0, each_full es lacks.1)

  pub missing_full : (e lack : Expression) → missing set e ≡ Some lack → HasNoEmptyAllOf lack
  missing_full e lack is =
      let parts = missing_gives (holds set e) (reduced set e) lack is in
      subst HasNoEmptyAllOf parts.1 (reduced_full e parts.0)

-- ---- what is missing is not held

All-front : {X : Type 0} (P : X → Type 0) (xs ys : List X) → All P (xs ++ ys) → All P xs
All-front P [] ys all = All-nil P
All-front P (x ∷ xs) ys all = All-cons P x xs (All-head P x (xs ++ ys) all) (All-front P xs ys (All-tail P x (xs ++ ys) all))

All-back : {X : Type 0} (P : X → Type 0) (xs ys : List X) → All P (xs ++ ys) → All P ys
All-back P [] ys all = all
All-back P (x ∷ xs) ys all = All-back P xs ys (All-tail P x (xs ++ ys) all)

module _ (set : List (List ℕ)) where
  abbrev IsBare : List ℕ → Type 0
  IsBare s = covers set s ≡ true → ⊥

  lacking_bare_by : (b : Bool) (e : Expression) (es : Members) → holds set e ≡ b → (holds set e ≡ false → All IsBare (scopes_in (reduced set e)))
      → All IsBare (scopes_in_each (lacking set es)) → All IsBare (scopes_in_each (cond b (lacking set es) (member (reduced set e) (lacking set es))))
  lacking_bare_by true e es is first rest = rest
  lacking_bare_by false e es is first rest = All-append IsBare _ _ (first is) rest

  mutual
    -- no scope in what is left of an expression that does not hold is covered
    reduced_bare : (e : Expression) → holds set e ≡ false → All IsBare (scopes_in (reduced set e))
    reduced_bare (one s) none = All-cons IsBare s [] (λ held. false≢true (sym none ∙ held)) (All-nil IsBare)
    reduced_bare (all_of es) none = lacking_bare es
    reduced_bare (any_of es) none = each_bare es none

    lacking_bare : (es : Members) → All IsBare (scopes_in_each (lacking set es))
    lacking_bare no_members = All-nil IsBare
    lacking_bare (member e es) = lacking_bare_by (holds set e) e es refl (reduced_bare e) (lacking_bare es)

    each_bare : (es : Members) → some_holds set es ≡ false → All IsBare (scopes_in_each (each_reduced set es))
    each_bare no_members none = All-nil IsBare
    each_bare (member e es) none = let lacks = or_parts _ _ none in All-append IsBare _ _ (reduced_bare e lacks.0) (each_bare es lacks.1)

  pub missing_bare : (e lack : Expression) → missing set e ≡ Some lack → All IsBare (scopes_in lack)
  missing_bare e lack is =
      let parts = missing_gives (holds set e) (reduced set e) lack is in
      subst (λ l. All IsBare (scopes_in l)) parts.1 (reduced_bare e parts.0)

  mutual
    -- what has no empty `AllOf` and no scope that is covered does not hold
    bare_fails : (e : Expression) → HasNoEmptyAllOf e → All IsBare (scopes_in e) → holds set e ≡ true → ⊥
    bare_fails (one s) full bare held = All-head IsBare s [] bare held
    bare_fails (all_of no_members) full bare held = full
    bare_fails (all_of (member e es)) full bare held = bare_fails e full.0 (All-front IsBare (scopes_in e) _ bare) ((and_parts _ _ held).0)
    bare_fails (any_of es) full bare held = none_holds es full bare held

    none_holds : (es : Members) → NoneHasEmptyAllOf es → All IsBare (scopes_in_each es) → some_holds set es ≡ true → ⊥
    none_holds no_members full bare held = false≢true held
    none_holds (member e es) full bare held =
        elim (or_cases _ _ held) [
          | inl here ↦ bare_fails e full.0 (All-front IsBare (scopes_in e) _ bare) here
          | inr later ↦ none_holds es full.1 (All-back IsBare (scopes_in e) _ bare) later
        ]

pub missing_fails : (set : List (List ℕ)) (e lack : Expression) → missing set e ≡ Some lack → holds set lack ≡ true → ⊥
missing_fails set e lack is = bare_fails set lack (missing_full set e lack is) (missing_bare set e lack is)
