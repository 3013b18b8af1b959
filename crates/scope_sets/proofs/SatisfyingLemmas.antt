-- The test `satisfies` decides what it says, and how the code computes it.
use Rattle.std.proofs.Common.{◌≡◌, ℕ, zero, suc, ◌<◌, Bool, true, false, ◌&&◌, ◌==◌, nat_eq, Decides, inl, inr, List, [], ◌∷◌, ◌++◌, length, take, drop, ◌-◌, ◌+◌, refl, sym, ap, ◌∙◌, subst, Contains, Any, arith}
use Rattle.std.proofs.lemmas.Bool.{eq-eqb, eqb-true, or_left, or_right, or_cases, and_parts, and_from, both_ways, false≢true, false_from_ne_true, and_right}
use Rattle.std.proofs.lemmas.List.{take-append-drop, take_at, drop_at, length-append}
use Rattle.std.proofs.lemmas.Slice.Eq.{bytes_eq-Decides}
use Rattle.std.specs.Cmp.Lexicographic.{pointwise}
use Rattle.scope_sets.specs.Scopes.{star, is_end, Satisfies, satisfies, covers}

pub satisfies_itself : (s : List ℕ) → satisfies s s ≡ true
unfolding satisfies
satisfies_itself [] = refl
satisfies_itself (x ∷ s) = or_right _ _ (and_from _ _ (eq-eqb x x refl) (satisfies_itself s))

pub satisfies_by_front : (front rest : List ℕ) → satisfies (front ++ star ∷ []) (front ++ rest) ≡ true
unfolding satisfies
satisfies_by_front [] [] = refl
satisfies_by_front [] (y ∷ rest) = refl
satisfies_by_front (x ∷ front) rest = or_right _ _ (and_from _ _ (eq-eqb x x refl) (satisfies_by_front front rest))

nothing_follows : (xs : List ℕ) → is_end xs ≡ true → xs ≡ []
nothing_follows [] e = refl
nothing_follows (x ∷ xs) e = absurd (false≢true e)

-- a `*` that ends the first scope, and whatever the second has from there on
from_last_star : (x : ℕ) (a b : List ℕ) → (x == star && is_end a) ≡ true → Satisfies (x ∷ a) b
from_last_star x a b e =
    let parts = and_parts _ _ e in
    let here : x ≡ star = eqb-true x star parts.0 in
    let last : a ≡ [] = nothing_follows a parts.1 in
    inr ([], b, rw (here, last), refl)

one_more : (x : ℕ) (a b : List ℕ) → Satisfies a b → Satisfies (x ∷ a) (x ∷ b)
one_more x a b (inl e) = inl (ap (λ t. x ∷ t) e)
one_more x a b (inr h) = inr (x ∷ h.0, h.1, ap (λ t. x ∷ t) h.2, ap (λ t. x ∷ t) h.3)

pub Satisfies-from_test : (a b : List ℕ) → satisfies a b ≡ true → Satisfies a b
unfolding satisfies
Satisfies-from_test [] [] e = inl refl
Satisfies-from_test [] (y ∷ b) e = absurd (false≢true e)
Satisfies-from_test (x ∷ a) [] e = from_last_star x a [] e
Satisfies-from_test (x ∷ a) (y ∷ b) e =
    elim (or_cases _ _ e) [
      | inl h ↦ from_last_star x a (y ∷ b) h
      | inr h ↦
          let parts = and_parts _ _ h in
          let here : x ≡ y = eqb-true x y parts.0 in
          subst (λ (z : ℕ). Satisfies (x ∷ a) (z ∷ b)) here (one_more x a b (Satisfies-from_test a b parts.1))
    ]

pub test_from_Satisfies : (a b : List ℕ) → Satisfies a b → satisfies a b ≡ true
test_from_Satisfies a b (inl e) = subst (λ (z : List ℕ). satisfies a z ≡ true) e (satisfies_itself a)
test_from_Satisfies a b (inr h) = rw (h.2, h.3) (satisfies_by_front h.0 h.1)

pub satisfies-Decides : (a b : List ℕ) → Decides (satisfies a b) (Satisfies a b)
satisfies-Decides a b = (Satisfies-from_test a b, test_from_Satisfies a b)

more_follows : (front : List ℕ) → is_end (front ++ star ∷ []) ≡ false
more_follows [] = refl
more_follows (x ∷ front) = refl

no_last_star : (x : ℕ) (a : List ℕ) → is_end a ≡ false → (x == star && is_end a) ≡ false
no_last_star x a e = rw e (and_right _ _ refl)

-- at a scope that ends with `*`, the test asks whether the other begins with what stands before it
pub satisfies-starred : (front b : List ℕ) → satisfies (front ++ star ∷ []) b ≡ pointwise nat_eq front (take (length front) b)
unfolding satisfies
satisfies-starred [] [] = refl
satisfies-starred [] (y ∷ b) = refl
satisfies-starred (x ∷ front) [] = no_last_star x _ (more_follows front)
satisfies-starred (x ∷ front) (y ∷ b) = rw (no_last_star x _ (more_follows front), satisfies-starred front b)

-- at any other scope, it asks whether they are the same
pub satisfies-whole : (a b : List ℕ) → ((front : List ℕ) → a ≡ front ++ star ∷ [] → ⊥) → satisfies a b ≡ pointwise nat_eq a b
unfolding satisfies
satisfies-whole [] [] none = refl
satisfies-whole [] (y ∷ b) none = refl
satisfies-whole (x ∷ a) b none =
    let ends : (x == star && is_end a) ≡ false = false_from_ne_true _ (λ e.
    let parts = and_parts _ _ e in
    let here : x ≡ star = eqb-true x star parts.0 in
    let last : a ≡ [] = nothing_follows a parts.1 in
    none [] (rw (here, last))) in
    elim b as (λ b. satisfies (x ∷ a) b ≡ pointwise nat_eq (x ∷ a) b) [
      | [] ↦ ends
      | y ∷ b ↦ rw (ends, satisfies-whole a b (λ front e. none (x ∷ front) (ap (λ t. x ∷ t) e)))
    ]

-- a member of a list that passes, and the test of the whole list
pub Any-from_covers : (set : List (List ℕ)) (s : List ℕ) → covers set s ≡ true → Any (λ held. Satisfies held s) set
Any-from_covers [] s e = absurd (false≢true e)
Any-from_covers (held ∷ set) s e =
    elim (or_cases _ _ e) [
      | inl h ↦ (0, held, omega arith, refl, Satisfies-from_test held s h)
      | inr h ↦ let found = Any-from_covers set s h in (suc found.0, found.1, omega (arith, found.2), found.3, found.4)
    ]

pub covers_by : (set : List (List ℕ)) (held s : List ℕ) → Contains set held → Satisfies held s → covers set s ≡ true
covers_by [] held s at h = absurd (omega (arith, at.1))
covers_by (first ∷ set) held s (zero, lt, is) h = or_left (satisfies first s) _ (rw is (test_from_Satisfies held s h))
covers_by (first ∷ set) held s (suc k, lt, is) h = or_right _ _ (covers_by set held s (k, omega (arith, lt), is) h)

pub covers_from_Any : (set : List (List ℕ)) (s : List ℕ) → Any (λ held. Satisfies held s) set → covers set s ≡ true
covers_from_Any set s h = covers_by set h.1 s (h.0, h.2, h.3) h.4

pub covers-Decides : (set : List (List ℕ)) (s : List ℕ) → Decides (covers set s) (Any (λ held. Satisfies held s) set)
covers-Decides set s = (Any-from_covers set s, covers_from_Any set s)

-- what the code's two arms answer
pub starred_arm : (held asked front : List ℕ) (r : Bool) → pointwise nat_eq (drop (length held - 1) held) (star ∷ []) ≡ true → front ≡ take (length held - 1) held
    → r ≡ pointwise nat_eq front (take (length front) asked) → r ≡ satisfies held asked
starred_arm held asked front r ends is answer =
    let last : drop (length held - 1) held ≡ star ∷ [] = (bytes_eq-Decides (drop (length held - 1) held) (star ∷ [])).0 ends in
    let whole : front ++ star ∷ [] ≡ held = rw (is, ← last) (take-append-drop (length held - 1) held) in
    answer ∙ sym (satisfies-starred front asked) ∙ ap (λ (h : List ℕ). satisfies h asked) whole

pub whole_arm : (held asked : List ℕ) (r : Bool) → pointwise nat_eq (drop (length held - 1) held) (star ∷ []) ≡ false → r ≡ pointwise nat_eq held asked → r ≡ satisfies held asked
whole_arm held asked r ends answer =
    answer ∙ sym (satisfies-whole held asked (λ front e.
    let last : drop (length held - 1) held ≡ star ∷ [] = rw e (drop_at front (star ∷ []) _ (omega (arith, length-append front (star ∷ [])))) in
    both_ways _ ends ((bytes_eq-Decides (drop (length held - 1) held) (star ∷ [])).1 last)))

pub meaning_from_test : (a b : List ℕ) (r : Bool) → r ≡ satisfies a b → Decides r (Satisfies a b)
meaning_from_test a b r e = (λ t. Satisfies-from_test a b (sym e ∙ t), λ h. e ∙ test_from_Satisfies a b h)

pub covers_found : (set : List (List ℕ)) (s : List ℕ) → Contains set s → covers set s ≡ true
covers_found set s at = covers_by set s s at (inl refl)

pub covers_starred : (set : List (List ℕ)) (s : List ℕ) (k : ℕ) → Contains set (take k s ++ star ∷ []) → covers set s ≡ true
covers_starred set s k at = covers_by set _ s at (inr (take k s, drop k s, refl, sym (take-append-drop k s)))

no_member : (set : List (List ℕ)) (s : List ℕ) → (Contains set s → ⊥) → ((k : ℕ) → k < length s + 1 → Contains set (take k s ++ star ∷ []) → ⊥) → (held : List ℕ) → Contains set held → Satisfies held s → ⊥
no_member set s whole fronts held at (inl e) = whole (subst (λ (t : List ℕ). Contains set t) e at)
no_member set s whole fronts held at (inr h) =
    let front : take (length h.0) s ≡ h.0 = rw h.3 (take_at h.0 h.1 (length h.0) refl) in
    let fits : length h.0 < length s + 1 = rw h.3 (omega (arith, length-append h.0 h.1)) in
    fronts (length h.0) fits (rw front (subst (λ (t : List ℕ). Contains set t) h.2 at))

-- neither the scope itself is there, nor any front of it with a `*`
pub covers_none : (set : List (List ℕ)) (s : List ℕ) → (Contains set s → ⊥) → ((k : ℕ) → k < length s + 1 → Contains set (take k s ++ star ∷ []) → ⊥) → covers set s ≡ false
covers_none set s whole fronts = false_from_ne_true _ (λ e.
    let h = Any-from_covers set s e in
    no_member set s whole fronts h.1 (h.0, h.2, h.3) h.4)

pub covers_meaning : (set : List (List ℕ)) (s : List ℕ) (r : Bool) → r ≡ covers set s → Decides r (Any (λ held. Satisfies held s) set)
covers_meaning set s r e = (λ t. Any-from_covers set s (sym e ∙ t), λ h. e ∙ covers_from_Any set s h)
