-- Lists without repeats, and the closure as one list.
use Rattle.std.proofs.Common.{◌≡◌, ◌≢◌, ℕ, zero, suc, ◌+◌, ◌<◌, ◌≤◌, ◌⊎◌, inl, inr, List, [], ◌∷◌, ◌++◌, length, map, get_or, refl, sym, ap, ◌∙◌, subst, Contains, arith, length-append}
use Rattle.std.proofs.lemmas.List.Elements.{Contains-append_left, Contains-append_right, Contains-append_cases, All-contains}
use Rattle.std.specs.List.{All, AllPairs}
use Rattle.scope_sets.specs.Scopes.{IsBefore, IsRising}
use Rattle.scope_sets.proofs.LawLemmas.{same_from_members}
use Rattle.scope_sets.proofs.OrderLemmas.{Equal-itself}
use Rattle.role_expand.specs.Roles.{RoleData, role_data}
use Rattle.role_expand.specs.Closures.{IsClosure, IsEachOnce, IsAllDerivable, HasMoreDerivable}
use Rattle.role_expand.specs.declared.roles.Role.{Role}

here : {X : Type 0} (x : X) (xs : List X) → Contains (x ∷ xs) x
here x xs = (0, omega arith, refl)

later : {X : Type 0} (x y : X) (xs : List X) → Contains xs y → Contains (x ∷ xs) y
later x y xs h = (suc h.0, omega (arith, h.1), h.2)

split : {X : Type 0} (x y : X) (xs : List X) → Contains (x ∷ xs) y → (x ≡ y) ⊎ Contains xs y
split x y xs (zero, lt, is) = inl is
split x y xs (suc k, lt, is) = inr (k, omega (arith, lt), is)

-- where an element stands
cut_at : {X : Type 0} (xs : List X) (x : X) → Contains xs x → (front : List X) × (back : List X) × (xs ≡ front ++ x ∷ back)
cut_at [] x h = absurd (omega (arith, h.1))
cut_at (y ∷ xs) x (zero, lt, is) = ([], xs, ap (λ z. z ∷ xs) is)
cut_at (y ∷ xs) x (suc k, lt, is) = let rest = cut_at xs x (k, omega (arith, lt), is) in (y ∷ rest.0, rest.1, ap (λ t. y ∷ t) rest.2)

once_tail : {X : Type 0} (x : X) (xs : List X) → IsEachOnce (x ∷ xs) → IsEachOnce xs
once_tail x xs h = λ i j d lt in_range. h (suc i) (suc j) d (omega arith) (omega arith)

once_head : {X : Type 0} (x y : X) (xs : List X) → IsEachOnce (x ∷ xs) → Contains xs y → x ≡ y → ⊥
once_head x y xs h at e = h 0 (suc at.0) y (omega arith) (omega (arith, at.1)) (e ∙ sym at.2)

-- a list without repeats is no longer than one that has all its elements
pub each_once_le : {X : Type 0} (xs ys : List X) → IsEachOnce xs → ((x : X) → Contains xs x → Contains ys x) → length xs ≤ length ys
each_once_le [] ys h within = omega arith
each_once_le (x ∷ xs) ys h within =
    let cut = cut_at ys x (within x (here x xs)) in
    let rest = each_once_le xs (cut.0 ++ cut.1) (once_tail x xs h) (λ y at. stays x y cut.0 cut.1 (once_head x y xs h at) (subst (λ (t : List _). Contains t y) cut.2 (within y (later x y xs at)))) in
    omega (arith, rest, length-append cut.0 cut.1, length-append cut.0 (x ∷ cut.1), ap length cut.2)
  where
    stays : {X : Type 0} (x y : X) (front back : List X) → (x ≡ y → ⊥) → Contains (front ++ x ∷ back) y → Contains (front ++ back) y
    stays x y front back other at =
        elim (Contains-append_cases front (x ∷ back) y at) [
          | inl a ↦ Contains-append_left front back y a
          | inr b ↦ (elim (split x y back b) [
            | inl e ↦ absurd (other e)
            | inr c ↦ Contains-append_right front back y c
          ])
        ]

pub once_from_rising : (set : List (List ℕ)) → IsRising set → IsEachOnce set
once_from_rising set up = λ i j d lt in_range e.
    let before : IsBefore (get_or set i d) (get_or set j d) = up i j d lt in_range in
    let itself = Equal-itself (get_or set j d) in
    apart _ _ before itself e
  where
    apart : (x y : List ℕ) → IsBefore x y → Rattle.std.specs.Cmp.Lexicographic.slice_cmp Rattle.std.proofs.Common.nat_cmp y y ≡ Rattle.std.proofs.Common.Equal → x ≡ y → ⊥
    apart x y before itself e = let k = subst (λ (z : List ℕ). IsBefore z y) e before in cc

pub closure_from_found : (most : ℕ) (roles : List RoleData) (start found set : List (List ℕ)) → IsAllDerivable most roles start found → IsRising set
    → ((s : List ℕ) → Contains found s → Contains set s) → ((s : List ℕ) → Contains set s → Contains found s) → IsClosure most roles start set
closure_from_found most roles start found set all rising keeps adds_none = record {
  rising = rising;
  derived = λ s h. all.derived s (adds_none s h);
  whole = λ s d. keeps s (all.whole s d);
  few = omega (arith, each_once_le set found (once_from_rising set rising) adds_none, all.few);
}

pub closure_is_one : (most : ℕ) (roles : List RoleData) (start set other : List (List ℕ)) → IsClosure most roles start set → IsClosure most roles start other → set ≡ other
closure_is_one most roles start set other a b = same_from_members set other a.rising b.rising (λ s h. b.whole s (a.derived s h)) (λ s h. a.whole s (b.derived s h))

pub closure_or_more : (most : ℕ) (roles : List RoleData) (start set : List (List ℕ)) → IsClosure most roles start set → HasMoreDerivable most roles start → ⊥
closure_or_more most roles start set a h = absurd (omega (arith, each_once_le h.some set h.once (λ s at. a.whole s (h.derived s at)), h.many, a.few))

pub form_of_next : (P : RoleData → Type 0) (all xs : List RoleData) (ys rest : List Role) (x : Role) → all ≡ xs ++ map role_data ys → ys ≡ x ∷ rest → All P all → P (role_data x)
form_of_next P all xs ys rest x is next forms =
    All-contains P all (role_data x) forms
    (subst (λ (t : List RoleData). Contains t (role_data x)) (sym (is ∙ ap (λ (t : List Role). xs ++ map role_data t) next)) (Contains-append_right xs (role_data x ∷ map role_data rest) (role_data x) (here (role_data x) (map role_data rest))))
