-- Weights of lists, beginnings of one list, and lists of views when one changes or one comes.
use Rattle.std.proofs.Common.{◌≡◌, ◌≢◌, ℕ, zero, suc, ◌+◌, ◌<◌, ◌≤◌, List, [], ◌∷◌, ◌++◌, length, set, refl, sym, ap, ◌∙◌, subst, ⊎_elim, arith, append_assoc, AllPairs, cond, eqb, eq-eqb, ne_eqb, get_or}
use mathlib.Core.Logic.{dite}
use native.Mathlib.Decide.{ℕ_discrete}
use mathlib.Core.Option.{some, some-injective, some-ne-none}
use mathlib.Core.List.{IsPrefix}
use lib.ListN.{get_elem?}
use Rattle.atomic_table.proofs.Lists.{at_set, at_snoc}
use Rattle.shared_desk.specs.Views.{total}

pub total-append : {V : Type 0} (f : V → ℕ) (xs ys : List V) → total f (xs ++ ys) ≡ total f xs + total f ys
total-append f [] ys = omega arith
total-append f (x ∷ xs) ys = let rest = total-append f xs ys in omega arith

-- the total after a change of one member
pub total_set : {V : Type 0} (f : V → ℕ) (xs : List V) (i : ℕ) (x y : V) → get_elem? xs i ≡ some x → total f (set xs i y) + f x ≡ total f xs + f y
total_set f [] i x y at = absurd (some-ne-none x (sym at))
total_set f (z ∷ xs) zero x y at = let same : f z ≡ f x = ap f (some-injective z x at) in omega arith
total_set f (z ∷ xs) (suc i) x y at = let rest = total_set f xs i x y at in omega arith

-- a member's part of the total
pub total_has : {V : Type 0} (f : V → ℕ) (xs : List V) (i : ℕ) (x : V) → get_elem? xs i ≡ some x → f x ≤ total f xs
total_has f [] i x at = absurd (some-ne-none x (sym at))
total_has f (z ∷ xs) zero x at = let same : f z ≡ f x = ap f (some-injective z x at) in omega arith
total_has f (z ∷ xs) (suc i) x at = let rest = total_has f xs i x at in omega arith

-- as many as there are
pub total_ones : {V : Type 0} (xs : List V) → total (λ x. 1) xs ≡ length xs
total_ones [] = refl
total_ones (x ∷ xs) = let rest = total_ones xs in omega arith

-- each list begins with itself
pub prefix_self : {A : Type 0} (xs : List A) → IsPrefix xs xs
prefix_self [] = ([], refl)
prefix_self (x ∷ xs) = (let r = prefix_self xs in r.0, ap (λ ys. x ∷ ys) (prefix_self xs).1)

-- what begins a list begins a longer one
pub prefix_more : {A : Type 0} (xs ys more : List A) → IsPrefix xs ys → IsPrefix xs (ys ++ more)
prefix_more xs ys more p = (p.0 ++ more, sym (append_assoc xs p.0 more) ∙ ap (λ w. w ++ more) p.1)

-- what holds of each member still does after a change of one
pub each_set : {V : Type 0} (P : V → Type 0) (xs : List V) (i : ℕ) (y : V) → P y → ((j : ℕ) (x : V) → j ≢ i → get_elem? xs j ≡ some x → P x) → (j : ℕ) (x : V) → get_elem? (set xs i y) j ≡ some x → P x
each_set P xs i y changed others j x at =
    ⊎_elim (λ t. subst P t.1 changed) (λ t. others j x t.0 t.1) (at_set xs i j y x at)

-- and after one comes
pub each_push : {V : Type 0} (P : V → Type 0) (xs : List V) (y : V) → P y → ((j : ℕ) (x : V) → get_elem? xs j ≡ some x → P x) → (j : ℕ) (x : V) → get_elem? (xs ++ y ∷ []) j ≡ some x → P x
each_push P xs y came others j x at =
    ⊎_elim (λ t. others j x t) (λ t. subst P t came) (at_snoc xs y x j at)

-- a member at a place is one
pub one_there : {V : Type 0} (xs : List V) (i j : ℕ) (x y : V) → get_elem? xs i ≡ some x → get_elem? xs j ≡ some y → i ≡ j → x ≡ y
one_there xs i j x y at there same = some-injective x y (sym at ∙ (ap (get_elem? xs) same ∙ there))

-- a member that is there is within
pub inside : {V : Type 0} (xs : List V) (i : ℕ) (x : V) → get_elem? xs i ≡ some x → i < length xs
inside [] i x at = absurd (some-ne-none x (sym at))
inside (y ∷ xs) zero x at = omega arith
inside (y ∷ xs) (suc i) x at = let rest = inside xs i x at in omega arith

-- a list of one, written
pub one_set : {V : Type 0} (xs : List V) (x : V) → length xs ≡ 1 → set xs 0 x ≡ x ∷ []
one_set [] x one = absurd (omega arith)
one_set (y ∷ []) x one = refl
one_set (y ∷ z ∷ xs) x one = absurd (omega arith)

-- 1 at this number, else 0
abbrev pub at_number : ℕ → ℕ → ℕ
at_number p y = cond (eqb y p) 1 0

pub at_number-same : (p y : ℕ) → y ≡ p → at_number p y ≡ 1
at_number-same p y same = ap (λ b. cond b 1 0) (eq-eqb y p same)

pub at_number-other : (p y : ℕ) → y ≢ p → at_number p y ≡ 0
at_number-other p y other = ap (λ b. cond b 1 0) (ne_eqb y p other)

-- a member's weight, by its place
weight_there : (f : ℕ → ℕ) (xs : List ℕ) (j d : ℕ) → j < length xs → f (get_or xs j d) ≤ total f xs
weight_there f [] j d within = absurd (omega arith)
weight_there f (x ∷ xs) zero d within = omega arith
weight_there f (x ∷ xs) (suc j) d within = let rest = weight_there f xs j d (omega arith) in omega arith

-- the weights of two members
weight_of_two : (f : ℕ → ℕ) (xs : List ℕ) (i j d : ℕ) → i < j → j < length xs → f (get_or xs i d) + f (get_or xs j d) ≤ total f xs
weight_of_two f [] i j d before within = absurd (omega arith)
weight_of_two f (x ∷ xs) zero zero d before within = absurd (omega arith)
weight_of_two f (x ∷ xs) (suc i) zero d before within = absurd (omega arith)
weight_of_two f (x ∷ xs) zero (suc j) d before within = let rest = weight_there f xs j d (omega arith) in omega arith
weight_of_two f (x ∷ xs) (suc i) (suc j) d before within = let rest = weight_of_two f xs i j d (omega arith) (omega arith) in omega arith

-- a number that all are above does not stand there
none_above : (p : ℕ) (xs : List ℕ) → ((k d : ℕ) → k < length xs → p < get_or xs k d) → total (at_number p) xs ≡ 0
none_above p [] above = refl
none_above p (x ∷ xs) above =
    let here = at_number-other p x (λ same. let a = above 0 0 (omega arith) in absurd (omega arith)) in
    let rest = none_above p xs (λ k d within. above (suc k) d (omega arith)) in
    omega arith

-- of numbers that rise each stands there at most once
once_rising : (p : ℕ) (xs : List ℕ) → AllPairs (λ earlier later. earlier < later) xs → total (at_number p) xs ≤ 1
once_rising p [] rise = omega arith
once_rising p (x ∷ xs) rise = dite (ℕ_discrete x p)
    (λ same. let here = at_number-same p x same in
    let rest = none_above p xs (λ k d within. let up = rise 0 (suc k) d (omega arith) (omega arith) in omega arith) in
    omega arith)
    (λ other. let here = at_number-other p x other in
    let rest = once_rising p xs (λ i j d before within. rise (suc i) (suc j) d (omega arith) (omega arith)) in
    omega arith)

-- numbers that weigh no more than rising ones stand there once each
pub distinct_below : (xs ys : List ℕ) → ((f : ℕ → ℕ) → total f xs ≤ total f ys) → AllPairs (λ earlier later. earlier < later) ys → AllPairs (λ place other. place ≢ other) xs
distinct_below xs ys less rise = λ i j d before within same.
    let p = get_or xs i d in
    let two = weight_of_two (at_number p) xs i j d before within in
    let first = at_number-same p p refl in
    let second = at_number-same p (get_or xs j d) (sym same) in
    let once = once_rising p ys rise in
    let all = less (at_number p) in
    absurd (omega arith)
