-- Keys in order, and what begins with what among them.
use Rattle.std.proofs.Common.{◌≡◌, ℕ, ◌+◌, ◌-◌, ◌<◌, ◌≤◌, ◌⊎◌, inl, inr, true, false, Bool, List, [], ◌∷◌, ◌++◌, length, get_or, refl, sym, ap, ◌∙◌, subst, arith, length-append, Ordering, Less, Equal, Greater, nat_cmp}
use Rattle.std.proofs.lemmas.Bool.{false≢true, true≢false, cases_lt}
use Rattle.std.proofs.lemmas.Cmp.{nat_list_cmp_total, ranked, by_ranked, upto}
use Rattle.std.proofs.lemmas.List.{get_or_append_left, get_or_push, get_or_default}
use Rattle.std.proofs.lemmas.List.Sorted.{sorted_far, ranks_by, Contains-permutation}
use Rattle.std.specs.Cmp.Lexicographic.{slice_cmp}
use Rattle.std.specs.List.Sorted.{IsPermutation}
use Rattle.role_expand.specs.Roles.{RoleData}
use Rattle.std.specs.Ordering.{is_lt, is_gt, ordering_reverse, ordering_then}
use Rattle.role_expand.specs.Index.{text_of, Begins, AreRising, IsUnder, AreLinks, AreKeysOf}
use Rattle.role_expand.specs.declared.index.RoleKey.{RoleKey}

-- the first text is no greater than the second
abbrev pub IsUpTo : List ℕ → List ℕ → Type 0
IsUpTo a b = is_lt (slice_cmp nat_cmp b a) ≡ false

reversed : (o : Ordering) → is_lt (ordering_reverse o) ≡ is_gt o
reversed Less = refl
reversed Equal = refl
reversed Greater = refl

turned : (a b : List ℕ) → is_lt (slice_cmp nat_cmp b a) ≡ is_gt (slice_cmp nat_cmp a b)
turned a b = ap is_lt (nat_list_cmp_total.antisymm b a) ∙ reversed (slice_cmp nat_cmp a b)

pub IsUpTo-trans : (a b c : List ℕ) → IsUpTo a b → IsUpTo b c → IsUpTo a c
IsUpTo-trans a b c h k = turned a c ∙ upto nat_list_cmp_total a b c (sym (turned a b) ∙ h) (sym (turned b c) ∙ k)

apart : (o : Ordering) → is_lt o ≡ true → is_gt o ≡ false
apart Less e = refl
apart Equal e = refl
apart Greater e = absurd (false≢true e)

-- what is less is no greater
pub IsUpTo-from_less : (a b : List ℕ) → is_lt (slice_cmp nat_cmp a b) ≡ true → IsUpTo a b
IsUpTo-from_less a b e = turned a b ∙ apart (slice_cmp nat_cmp a b) e

-- where heads are in order
heads : (x y : ℕ) (o : Ordering) → is_lt (ordering_then (nat_cmp x y) o) ≡ false → (y < x) ⊎ ((x ≡ y) × (is_lt o ≡ false))
heads x y o h =
    by_ranked (x < y) (x ≡ y) (y < x) (nat_cmp x y) (ranked x y (nat_cmp x y) refl)
    (λ e lt. absurd (true≢false (sym (ap (λ r. is_lt (ordering_then r o)) e) ∙ h)))
    (λ e same. inr (same, sym (ap (λ r. is_lt (ordering_then r o)) e) ∙ h))
    (λ e gt. inl gt)

-- what stands between a text and what begins with it begins with it too
pub between : (front a rest : List ℕ) → IsUpTo front a → IsUpTo a (front ++ rest) → Begins a front
between [] a rest low high = (a, refl)
between (x ∷ front) [] rest low high = absurd (true≢false low)
between (x ∷ front) (y ∷ a) rest low high =
    elim (heads y x (slice_cmp nat_cmp a front) low) [
      | inl less ↦ (elim (heads x y (slice_cmp nat_cmp (front ++ rest) a) high) [
        | inl other ↦ absurd (omega (arith, less, other))
        | inr same ↦ absurd (omega (arith, less, same.0))
      ])
      | inr same ↦ (elim (heads x y (slice_cmp nat_cmp (front ++ rest) a) high) [
        | inl other ↦ absurd (omega (arith, same.0, other))
        | inr alike ↦ let tail = between front a rest same.1 alike.1 in (tail.0, ap (λ (n : ℕ). n ∷ a) same.0 ∙ ap (λ (t : List ℕ). x ∷ t) tail.1)
      ])
    ]

nat_cmp_same : (x : ℕ) (o : Ordering) → is_lt (ordering_then (nat_cmp x x) o) ≡ is_lt o
nat_cmp_same x o =
    by_ranked (x < x) (x ≡ x) (x < x) (nat_cmp x x) (ranked x x (nat_cmp x x) refl)
    (λ e lt. absurd (omega (arith, lt)))
    (λ e same. ap (λ r. is_lt (ordering_then r o)) e)
    (λ e lt. absurd (omega (arith, lt)))

pub front_first : (front rest : List ℕ) → IsUpTo front (front ++ rest)
front_first [] [] = refl
front_first [] (x ∷ rest) = refl
front_first (x ∷ front) rest = nat_cmp_same x (slice_cmp nat_cmp (front ++ rest) front) ∙ front_first front rest

pub front_upto : (a front : List ℕ) → Begins a front → IsUpTo front a
front_upto a front b = subst (λ (t : List ℕ). IsUpTo front t) (sym b.1) (front_first front b.0)

pub between_begins : (front a b : List ℕ) → IsUpTo front a → IsUpTo a b → Begins b front → Begins a front
between_begins front a b low high w = between front a w.0 low (subst (λ (t : List ℕ). IsUpTo a t) w.1 high)

module _ (keys : List RoleKey) (up : AreRising keys) where
  -- what a key begins with stands under its own place
  pub under_place : (k j : ℕ) → k < length keys → j < k → ((d : RoleKey) → Begins (text_of (get_or keys k d)) (text_of (get_or keys j d))) → IsUnder keys k j
  under_place k j lt low b = record {
    below = low;
    begins = λ d. between_begins (text_of (get_or keys j d)) (text_of (get_or keys (k - 1) d)) (text_of (get_or keys k d)) (up j (k - 1) d (omega arith) (omega arith)) (up (k - 1) k d (omega arith) lt) (b d);
  }

  -- what a text begins with stands under the count of what stands no later
  pub under_count : (text : List ℕ) (count : ℕ) → count ≤ length keys
      → ((j : ℕ) (d : RoleKey) → j < count → is_lt (slice_cmp nat_cmp text (text_of (get_or keys j d))) ≡ false)
      → ((j : ℕ) (d : RoleKey) → count ≤ j → j < length keys → is_lt (slice_cmp nat_cmp text (text_of (get_or keys j d))) ≡ true)
      → (j : ℕ) (key : RoleKey) → j < length keys → ((d : RoleKey) → Begins text (text_of (get_or keys j d))) → IsUnder keys count j
  under_count text count bound before after j key lt b =
      let low : j < count = (elim (cases_lt j count) [
        | inl yes' ↦ yes'
        | inr high ↦ absurd (true≢false (sym (after j key high lt) ∙ front_upto text (text_of (get_or keys j key)) (b key)))
      ]) in
      record {
        below = low;
        begins = λ d. between_begins (text_of (get_or keys j d)) (text_of (get_or keys (count - 1) d)) text (up j (count - 1) d (omega arith) (omega arith)) (before (count - 1) d (omega arith)) (b d);
      }

-- what stands under a place, and is not right before it, stands under the link there
pub under_link : (keys : List RoleKey) (links : List ℕ) → AreLinks keys links → (at j : ℕ) → 0 < at → at ≤ length links → IsUnder keys at j → (j ≡ at - 1 → ⊥) → IsUnder keys (get_or links (at - 1) 0) j
under_link keys links linked at j pos fits u other = linked.whole (at - 1) j (omega arith) (omega (arith, u.below, other)) u.begins

pub links_none : (keys : List RoleKey) → AreLinks keys []
links_none keys = record { back = λ k lt. absurd (omega arith); whole = λ k j lt low b. absurd (omega arith) }

pub links_push : (keys : List RoleKey) (links : List ℕ) (at : ℕ) → AreLinks keys links → at ≤ length links
    → ((j : ℕ) → j < length links → ((d : RoleKey) → Begins (text_of (get_or keys (length links) d)) (text_of (get_or keys j d))) → IsUnder keys at j)
    → AreLinks keys (links ++ at ∷ [])
links_push keys links at linked low all =
    record {
      back = λ k lt. (elim (cases_lt k (length links)) [
        | inl before ↦ omega (arith, get_or_append_left links (at ∷ []) 0 k before, linked.back k before)
        | inr high ↦ let same : k ≡ length links = omega (arith, length-append links (at ∷ [])) in
            omega (arith, same, pushed k same)
      ]);
      whole = λ k j lt less b. (elim (cases_lt k (length links)) [
        | inl before ↦ subst (λ (n : ℕ). IsUnder keys n j) (sym (get_or_append_left links (at ∷ []) 0 k before)) (linked.whole k j before less b)
        | inr high ↦ let same : k ≡ length links = omega (arith, length-append links (at ∷ [])) in
            subst (λ (n : ℕ). IsUnder keys n j) (sym (pushed k same)) (all j (omega arith) (subst (λ (n : ℕ). (d : RoleKey) → Begins (text_of (get_or keys n d)) (text_of (get_or keys j d))) same b))
      ]);
    }
  where
    pushed : (k : ℕ) → k ≡ length links → get_or (links ++ at ∷ []) k 0 ≡ at
    pushed k same = get_or_push links at 0 k (sym same)

either : (b : Bool) → (b ≡ true) ⊎ (b ≡ false)
either true = inl refl
either false = inr refl

-- a key at a place, and a text
module _ (keys : List RoleKey) (up : AreRising keys) (m : ℕ) (key : RoleKey) (lt : m < length keys) (is : key ≡ get_or keys m key) (text : List ℕ) where
  same : (d : RoleKey) → get_or keys m d ≡ key
  same d = get_or_default keys m d key lt ∙ sym is

  key_from : (j : ℕ) (d : RoleKey) → j ≤ m → IsUpTo (text_of (get_or keys j d)) (text_of key)
  key_from j d le = subst (λ (k : RoleKey). IsUpTo (text_of (get_or keys j d)) (text_of k)) (same d) (up j m d le lt)

  key_upto : (j : ℕ) (d : RoleKey) → m ≤ j → j < length keys → IsUpTo (text_of key) (text_of (get_or keys j d))
  key_upto j d le low = subst (λ (k : RoleKey). IsUpTo (text_of k) (text_of (get_or keys j d))) (same d) (up m j d le low)

  pub none_before : is_lt (slice_cmp nat_cmp (text_of key) text) ≡ true → (j : ℕ) (d : RoleKey) → j ≤ m → Begins (text_of (get_or keys j d)) text → ⊥
  none_before less j d le b = true≢false (sym less ∙ IsUpTo-trans text (text_of (get_or keys j d)) (text_of key) (front_upto (text_of (get_or keys j d)) text b) (key_from j d le))

  pub upto_before : is_lt (slice_cmp nat_cmp text (text_of key)) ≡ false → (j : ℕ) (d : RoleKey) → j ≤ m → is_lt (slice_cmp nat_cmp text (text_of (get_or keys j d))) ≡ false
  upto_before high j d le = IsUpTo-trans (text_of (get_or keys j d)) (text_of key) text (key_from j d le) high

  pub less_after : is_lt (slice_cmp nat_cmp text (text_of key)) ≡ true → (j : ℕ) (d : RoleKey) → m ≤ j → j < length keys → is_lt (slice_cmp nat_cmp text (text_of (get_or keys j d))) ≡ true
  less_after less j d le low =
      elim (either (is_lt (slice_cmp nat_cmp text (text_of (get_or keys j d))))) [
        | inl e ↦ e
        | inr e ↦ absurd (true≢false (sym less ∙ IsUpTo-trans (text_of key) (text_of (get_or keys j d)) text (key_upto j d le low) e))
      ]

  pub none_after : is_lt (slice_cmp nat_cmp text (text_of key)) ≡ true → (Begins (text_of key) text → ⊥) → (j : ℕ) (d : RoleKey) → m ≤ j → j < length keys → Begins (text_of (get_or keys j d)) text → ⊥
  none_after less none j d le low b = none (between_begins text (text_of key) (text_of (get_or keys j d)) (IsUpTo-from_less text (text_of key) less) (key_upto j d le low) b)

-- what a sort by text and place leaves rises by text
then_first : (o p : Ordering) → is_lt (ordering_then o p) ≡ false → is_lt o ≡ false
then_first Less p e = e
then_first Equal p e = refl
then_first Greater p e = refl

pub rising_from_sorted : (keys : List RoleKey)
    → ((k : ℕ) (d : RoleKey) → 0 ≤ k → k + 1 < length keys → is_lt (ordering_then (slice_cmp nat_cmp (text_of (get_or keys (k + 1) d)) (text_of (get_or keys k d))) (nat_cmp (get_or keys (k + 1) d).place (get_or keys k d).place)) ≡ false)
    → AreRising keys
rising_from_sorted keys sorted =
    sorted_far (λ (x y : RoleKey). is_lt (slice_cmp nat_cmp (text_of x) (text_of y))) (ranks_by nat_list_cmp_total text_of) keys
    (λ k d low lt. then_first (slice_cmp nat_cmp (text_of (get_or keys (k + 1) d)) (text_of (get_or keys k d))) (nat_cmp (get_or keys (k + 1) d).place (get_or keys k d).place) (sorted k d low lt))

pub keys_moved : (roles : List RoleData) (keys moved : List RoleKey) → IsPermutation keys moved → AreKeysOf roles keys → AreKeysOf roles moved
keys_moved roles keys moved p h = λ i role at. let k = h i role at in (k.0, Contains-permutation keys moved k.0 p k.1, k.2, k.3)
