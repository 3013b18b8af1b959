-- The first of some numbers that passes a test.
use Rattle.std.proofs.Common.{◌≡◌, ℕ, zero, suc, ◌+◌, ◌<◌, ◌≤◌, Bool, true, false, cond, ltb, Some, None, refl, sym, ap, ◌∙◌, arith, find}
use Rattle.std.specs.List.{range_with_len}
use Rattle.std.proofs.lemmas.Bool.{ltb-true, ltb-false}

find_by : (p : ℕ → Bool) (a n i : ℕ) (less : Bool) → ltb a i ≡ less → a ≤ i → i < a + suc n → p i ≡ true → ((k : ℕ) → a ≤ k → k < i → p k ≡ false) → (a + 1 ≤ i → i < (a + 1) + n → ((k : ℕ) → a + 1 ≤ k → k < i → p k ≡ false) → find p (range_with_len (a + 1) n) ≡ Some i) → cond (p a) (Some a) (find p (range_with_len (a + 1) n)) ≡ Some i
find_by p a n i true less low high is before next =
    let here : p a ≡ false = before a (omega arith) (omega (arith, ltb-true a i less)) in
    rw here (next (omega (arith, ltb-true a i less)) (omega arith) (λ k from to. before k (omega arith) to))
find_by p a n i false less low high is before next =
    let same : i ≡ a = omega (arith, ltb-false a i less) in
    let here : p a ≡ true = sym (ap p same) ∙ is in
    rw here (ap Some (sym same))

pub find_first : (p : ℕ → Bool) (a n i : ℕ) → a ≤ i → i < a + n → p i ≡ true → ((k : ℕ) → a ≤ k → k < i → p k ≡ false) → find p (range_with_len a n) ≡ Some i
find_first p a zero i low high is before = absurd (omega arith)
find_first p a (suc n) i low high is before =
    find_by p a n i (ltb a i) refl low high is before (λ low high before. find_first p (a + 1) n i low high is before)

pub find_none : (p : ℕ → Bool) (a n : ℕ) → ((k : ℕ) → a ≤ k → k < a + n → p k ≡ false) → find p (range_with_len a n) ≡ None
find_none p a zero before = refl
find_none p a (suc n) before =
    let here : p a ≡ false = before a (omega arith) (omega arith) in
    rw here (find_none p (a + 1) n (λ k from to. before k (omega arith) (omega arith)))
