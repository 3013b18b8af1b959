-- A part of a rising list, whose scopes begin alike, and what is found in it by one byte.
use Rattle.std.proofs.Common.{◌≡◌, ℕ, zero, suc, ◌+◌, ◌-◌, ◌<◌, ◌≤◌, Bool, true, false, ltb, leb, inl, inr, List, [], ◌∷◌, ◌++◌, length, take, drop, get_or, refl, sym, ap, ◌∙◌, subst, ◌↔◌, Decides, All, Contains, arith, nat_cmp, Less}
use Rattle.std.proofs.lemmas.Bool.{false≢true, cases_lt, ltb-false, leb-true, le-ltb, le-leb}
use Rattle.std.proofs.lemmas.Bool.Decides.{nat_tests}
use Rattle.std.proofs.lemmas.Cmp.{nat_cmp_total, tied_itself}
use Rattle.std.proofs.lemmas.List.{append-nil, append_assoc, drop_at, nil_from_length, get_or_default, length-append, length-take, length-drop, get_or-take, get_or-drop}
use Rattle.std.proofs.lemmas.List.Elements.{Contains-get_or, All-contains}
use Rattle.std.specs.Cmp.Lexicographic.{slice_cmp}
use Rattle.std.specs.List.Sorted.{IsNonDecreasingBy, IsPartitionPoint}
use Rattle.std.specs.Ordering.{ordering_then}
use Rattle.scope_sets.specs.Scopes.{star, IsBefore, IsRising, covers}
use Rattle.scope_sets.specs.Walks.{HasFront, rank_of, rank_at}
use Rattle.scope_sets.proofs.SatisfyingLemmas.{covers_found, covers_none}

pub All-from_contains : {X : Type 0} (P : X → Type 0) (xs : List X) → ((x : X) → Contains xs x → P x) → All P xs
All-from_contains P xs f = λ k d lt. f (get_or xs k d) (Contains-get_or xs k d lt)

-- ---- ranks

rank_at-front : (front rest : List ℕ) → rank_at (length front) (front ++ rest) ≡ rank_of rest
rank_at-front front rest = ap rank_of (drop_at front rest (length front) refl)

then_more : (x : ℕ) (xs ys : List ℕ) → ordering_then (nat_cmp x x) (slice_cmp nat_cmp xs ys) ≡ slice_cmp nat_cmp xs ys
then_more x xs ys = ap (λ o. ordering_then o (slice_cmp nat_cmp xs ys)) (tied_itself nat_cmp_total x)

slice_cmp-front : (front xs ys : List ℕ) → slice_cmp nat_cmp (front ++ xs) (front ++ ys) ≡ slice_cmp nat_cmp xs ys
slice_cmp-front [] xs ys = refl
slice_cmp-front (x ∷ front) xs ys = then_more x (front ++ xs) (front ++ ys) ∙ slice_cmp-front front xs ys

rank_le : (xs ys : List ℕ) → IsBefore xs ys → rank_of xs ≤ rank_of ys
rank_le [] ys e = omega arith
rank_le (x ∷ xs) [] e = absurd (cc)
rank_le (x ∷ xs) (y ∷ ys) e = grind (arith, nat_tests)

rank_le_at : (front s t : List ℕ) → HasFront front s → HasFront front t → IsBefore s t → rank_at (length front) s ≤ rank_at (length front) t
rank_le_at front s t (xs, e) (ys, f) before =
    let less : slice_cmp nat_cmp xs ys ≡ Less = sym (slice_cmp-front front xs ys) ∙ rw (← e, ← f) before in
    rw (e, f, rank_at-front front xs, rank_at-front front ys) (rank_le xs ys less)

-- the ranks of scopes that rise and begin alike do not fall
pub ranks_rise : (front : List ℕ) (part : List (List ℕ)) → IsRising part → All (HasFront front) part → IsNonDecreasingBy (rank_at (length front)) part
ranks_rise front part up begin i j d le lt =
    elim (cases_lt i j) [
      | inl less ↦ rank_le_at front (get_or part i d) (get_or part j d) (begin i d (omega arith)) (begin j d lt) (up i j d less lt)
      | inr more ↦ let same : i ≡ j = omega arith in rw same (omega arith)
    ]

-- ---- what a partition point leaves

module _ {X : Type 0} (p : X → Bool) (xs : List X) (i : ℕ) (at : IsPartitionPoint (λ y. p y ≡ true) (λ y. p y ≡ false) xs i) where
  pub behind_point : (x : X) → Contains (drop i xs) x → Contains xs x × (p x ≡ false)
  behind_point x h =
      let inside : i + h.0 < length xs = omega (arith, h.1, length-drop i xs) in
      let is : get_or xs (i + h.0) x ≡ x = sym (get_or-drop i xs h.0 x) ∙ h.2 in
      ((i + h.0, inside, is), subst (λ (z : X). p z ≡ false) is (at.1 (i + h.0) x (omega arith) inside))

  pub before_point : (x : X) → Contains (take i xs) x → Contains xs x × (p x ≡ true)
  before_point x h =
      let inside : h.0 < i = omega (arith, h.1, length-take i xs) in
      let is : get_or xs h.0 x ≡ x = sym (get_or-take i xs h.0 x inside) ∙ h.2 in
      ((h.0, omega (arith, h.1, length-take i xs), is), subst (λ (z : X). p z ≡ true) is (at.0 h.0 x (omega arith) inside))

  pub to_behind : (x : X) → Contains xs x → p x ≡ false → Contains (drop i xs) x
  to_behind x h fails =
      elim (cases_lt h.0 i) [
        | inl low ↦ absurd (false≢true (sym fails ∙ subst (λ (z : X). p z ≡ true) h.2 (at.0 h.0 x (omega arith) low)))
        | inr high ↦
            let here : i + (h.0 - i) ≡ h.0 = omega (arith, high) in
            (h.0 - i, omega (arith, h.1, high, length-drop i xs), get_or-drop i xs (h.0 - i) x ∙ ap (λ (k : ℕ). get_or xs k x) here ∙ h.2)
      ]

  pub to_before : (x : X) → Contains xs x → p x ≡ true → Contains (take i xs) x
  to_before x h passes =
      elim (cases_lt h.0 i) [
        | inl low ↦ (h.0, omega (arith, h.1, low, length-take i xs), get_or-take i xs h.0 x low ∙ h.2)
        | inr high ↦ absurd (false≢true (sym (subst (λ (z : X). p z ≡ false) h.2 (at.1 h.0 x high h.1)) ∙ passes))
      ]

pub IsRising-drop : (i : ℕ) (part : List (List ℕ)) → IsRising part → IsRising (drop i part)
IsRising-drop i part up j k d less lt = rw (get_or-drop i part j d, get_or-drop i part k d) (up (i + j) (i + k) d (omega arith) (omega (arith, length-drop i part)))

pub IsRising-take : (i : ℕ) (part : List (List ℕ)) → IsRising part → IsRising (take i part)
IsRising-take i part up j k d less lt =
    let inside : k < i = omega (arith, length-take i part) in
    rw (get_or-take i part j d (omega arith), get_or-take i part k d inside) (up j k d less (omega (arith, length-take i part)))

-- ---- the scopes that go on with a byte

rank_is : (front s rest : List ℕ) → s ≡ front ++ rest → rank_at (length front) s ≡ rank_of rest
rank_is front s rest e = ap (rank_at (length front)) e ∙ rank_at-front front rest

HasFront-from_rank : (front s : List ℕ) (x : ℕ) → HasFront front s → rank_at (length front) s ≡ suc x → HasFront (front ++ x ∷ []) s
HasFront-from_rank front s x ([], e) is =
    let none : 0 ≡ suc x = sym (rank_is front s [] e) ∙ is in
    absurd (omega (arith, none))
HasFront-from_rank front s x (y ∷ rest, e) is =
    let next : suc y ≡ suc x = sym (rank_is front s (y ∷ rest) e) ∙ is in
    let same : y ≡ x = omega (arith, next) in
    (rest, e ∙ ap (λ (z : ℕ). front ++ z ∷ rest) same ∙ sym (append_assoc front (x ∷ []) rest))

HasFront-shorter : (front s : List ℕ) (x : ℕ) → HasFront (front ++ x ∷ []) s → HasFront front s
HasFront-shorter front s x (rest, e) = (x ∷ rest, e ∙ append_assoc front (x ∷ []) rest)

rank_from_HasFront : (front s : List ℕ) (x : ℕ) → HasFront (front ++ x ∷ []) s → rank_at (length front) s ≡ suc x
rank_from_HasFront front s x (rest, e) = rank_is front s (x ∷ rest) (e ∙ append_assoc front (x ∷ []) rest)

-- what two partition points, by the rank below and up to a byte's, leave between them
module _ (front : List ℕ) (part rest : List (List ℕ)) (x r a b : ℕ) (rank : r ≡ suc x) (rest_is : rest ≡ drop a part) (begin : All (HasFront front) part)
    (low : IsPartitionPoint (λ y. ltb (rank_at (length front) y) r ≡ true) (λ y. ltb (rank_at (length front) y) r ≡ false) part a)
    (high : IsPartitionPoint (λ y. leb (rank_at (length front) y) r ≡ true) (λ y. leb (rank_at (length front) y) r ≡ false) rest b) where
  next_within : (s : List ℕ) → Contains (take b rest) s → Contains part s × HasFront (front ++ x ∷ []) s
  next_within s h =
      let upper = before_point (λ y. leb (rank_at (length front) y) r) rest b high s h in
      let lower = behind_point (λ y. ltb (rank_at (length front) y) r) part a low s (subst (λ (z : List (List ℕ)). Contains z s) rest_is upper.0) in
      let most : rank_at (length front) s ≤ r = leb-true _ _ upper.1 in
      let least : r ≤ rank_at (length front) s = ltb-false _ _ lower.1 in
      let is : rank_at (length front) s ≡ suc x = omega (arith, most, least, rank) in
      (lower.0, HasFront-from_rank front s x (All-contains (HasFront front) part s begin lower.0) is)

  next_all : (s : List ℕ) → Contains part s → HasFront (front ++ x ∷ []) s → Contains (take b rest) s
  next_all s h f =
      let is : rank_at (length front) s ≡ suc x = rank_from_HasFront front s x f in
      let lower : Contains (drop a part) s = to_behind (λ y. ltb (rank_at (length front) y) r) part a low s h (le-ltb _ _ (omega (arith, is, rank))) in
      to_before (λ y. leb (rank_at (length front) y) r) rest b high s (subst (λ (z : List (List ℕ)). Contains z s) (sym rest_is) lower) (le-leb _ _ (omega (arith, is, rank)))

  pub next_members : (s : List ℕ) → Contains (take b rest) s ↔ (Contains part s × HasFront (front ++ x ∷ []) s)
  next_members s = (next_within s, λ h. next_all s h.0 h.1)

-- ---- the first of scopes that begin alike

nothing_before : (xs : List ℕ) → slice_cmp nat_cmp xs [] ≡ Less → ⊥
nothing_before [] e = cc
nothing_before (x ∷ xs) e = cc

-- no text that begins with a front comes before it
not_before_front : (front s : List ℕ) → HasFront front s → IsBefore s front → ⊥
not_before_front front s (rest, e) before =
    nothing_before rest (sym (slice_cmp-front front rest []) ∙ ap (λ (z : List ℕ). slice_cmp nat_cmp (front ++ rest) z) (append-nil front) ∙ ap (λ (z : List ℕ). slice_cmp nat_cmp z front) (sym e) ∙ before)

same_from_length : (front s : List ℕ) → HasFront front s → length s ≡ length front → s ≡ front
same_from_length front s (rest, e) same =
    let none : length rest ≡ 0 = omega (arith, ap length e, length-append front rest, same) in
    e ∙ ap (λ (z : List ℕ). front ++ z) (nil_from_length rest none) ∙ append-nil front

module _ (front first : List ℕ) (part : List (List ℕ)) (up : IsRising part) (begin : All (HasFront front) part) (some : 0 < length part) (at : get_or part 0 first ≡ first) where
  -- the first is the front where it is no longer
  pub front_there : length first ≡ length front → Contains part front
  front_there same =
      let begins : HasFront front first = subst (HasFront front) at (begin 0 first some) in
      subst (λ (z : List ℕ). Contains part z) (same_from_length front first begins same) (0, some, at)

  -- the front, if it is there, is the first
  pub front_first : Contains part front → length first ≡ length front
  front_first (zero, lt, is) = ap length (sym at ∙ get_or_default part 0 first front some ∙ is)
  front_first (suc k, lt, is) =
      let begins : HasFront front (get_or part 0 front) = begin 0 front some in
      absurd (not_before_front front (get_or part 0 front) begins (subst (λ (z : List ℕ). IsBefore (get_or part 0 front) z) is (up 0 (suc k) front (omega arith) lt)))

-- ---- the walk

-- the part has those scopes of the set that begin with a front
abbrev pub IsPartBy : List ℕ → List (List ℕ) → List (List ℕ) → Type 0
IsPartBy front part set = (s : List ℕ) → Contains part s ↔ (Contains set s × HasFront front s)

pub IsPartBy-begin : (front : List ℕ) (part set : List (List ℕ)) → IsPartBy front part set → All (HasFront front) part
IsPartBy-begin front part set is = All-from_contains (HasFront front) part (λ s h. ((is s).0 h).1)

pub IsPartBy-start : (set : List (List ℕ)) → IsPartBy [] set set
IsPartBy-start set s = (λ h. (h, (s, refl)), λ h. h.0)

pub IsPartBy-more : (front : List ℕ) (x : ℕ) (part next set : List (List ℕ)) → IsPartBy front part set → IsPartBy (front ++ x ∷ []) next part → IsPartBy (front ++ x ∷ []) next set
IsPartBy-more front x part next set is more s = (
  λ h. let k = (more s).0 h in (((is s).0 k.0).0, k.1),
  λ h. (more s).1 ((is s).1 (h.0, HasFront-shorter front s x h.1), h.1),
)

-- a scope that begins with the front is in the part where it is in the set
pub IsPartBy-has : (front rest : List ℕ) (part set : List (List ℕ)) → IsPartBy front part set → Contains part (front ++ rest) ↔ Contains set (front ++ rest)
IsPartBy-has front rest part set is = (λ h. ((is (front ++ rest)).0 h).0, λ h. (is (front ++ rest)).1 (h, (rest, refl)))

-- a scope that the part has is in the set, and the other way round
IsPartBy-whole : (s : List ℕ) (part set : List (List ℕ)) → IsPartBy s part set → Contains part s ↔ Contains set s
IsPartBy-whole s part set is = (λ h. ((is s).0 h).0, λ h. (is s).1 (h, ([], sym (append-nil s))))

-- what is answered at the end of the walk
pub covers_whole : (s : List ℕ) (part set : List (List ℕ)) (r : Bool) → IsPartBy s part set → ((k : ℕ) → k < length s + 1 → Contains set (take k s ++ star ∷ []) → ⊥) → Decides r (Contains part s) → r ≡ covers set s
covers_whole s part set true is fronts d = sym (covers_found set s ((IsPartBy-whole s part set is).0 (d.0 refl)))
covers_whole s part set false is fronts d = sym (covers_none set s (λ h. false≢true (d.1 ((IsPartBy-whole s part set is).1 h))) fronts)
