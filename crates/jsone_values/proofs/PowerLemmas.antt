-- Powers past the 64th turn.
use Rattle.std.proofs.Common.{◌≡◌, ℕ, ℤ, pos, negsuc, neg_ℤ, unsigned_abs, int_lt, zero, suc, ◌+◌, ◌^◌, ◌%◌, ◌<◌, ◌≤◌, ◌==◌, w64, FitsSigned, Bool, true, false, cond, Result, Ok, Err, sym, ap, ◌∙◌, subst, arith}
use Rattle.std.proofs.Math.Nat.{pow-zero, pow-suc, pow-le-pow_left, pow-le-pow_right}
use Rattle.std.specs.Int.{int_pow}
use Rattle.jsone_values.specs.declared.faults.Fault.{Fault}
use Rattle.jsone_values.specs.Numbers.{IsInRange, IsPower}

zero_power : (k : ℕ) → 0 < k → 0 ^ k ≡ 0
zero_power zero h = absurd (omega arith)
zero_power (suc k) h = pow-suc 0 k ∙ omega arith

one_power : (k : ℕ) → 1 ^ k ≡ 1
one_power zero = pow-zero 1
one_power (suc k) = pow-suc 1 k ∙ omega (arith, one_power k)

great_power : (a k : ℕ) → 2 ≤ a → 64 ≤ k → 2 ^ 64 ≤ a ^ k
great_power a k h l =
    let base : 2 ^ k ≤ a ^ k = pow-le-pow_left h k in
    let more : 2 ^ 64 ≤ 2 ^ k = pow-le-pow_right (omega arith) l in
    omega arith

past : (n : ℕ) → 2 ^ 64 ≤ n → FitsSigned w64 (pos n) → ⊥
past n h f = let small = f.sfits in absurd (omega (arith, small))

past_below : (n : ℕ) → 2 ^ 64 ≤ n → FitsSigned w64 (neg_ℤ (pos n)) → ⊥
past_below zero h f = absurd (omega arith)
past_below (suc n) h f = let small = f.sfits in absurd (omega (arith, small))

-- where neither number has 64 bits, the answers are the same
both_past : (y z : ℤ) (r : Result ℤ Fault) → (FitsSigned w64 y → ⊥) → (FitsSigned w64 z → ⊥) → IsInRange y r → IsInRange z r
both_past y z (Ok n) p q h = absurd (p h.0)
both_past y z (Err f) p q h = (q, h.1)

same_bit : (e : ℕ) → (64 + e % 2) % 2 ≡ e % 2
same_bit e = omega arith

below_past : (c : Bool) (n : ℕ) → 2 ^ 64 ≤ n → FitsSigned w64 (cond c (pos n) (neg_ℤ (pos n))) → ⊥
below_past true n h f = past n h f
below_past false n h f = past_below n h f

pub past_64 : (base : ℤ) (e : ℕ) (r : Result ℤ Fault) → 64 ≤ e → IsInRange (int_pow base (64 + e % 2)) r → IsInRange (int_pow base e) r
past_64 (pos zero) e r h i = subst (λ n. IsInRange (pos n) r) (zero_power (64 + e % 2) (omega arith) ∙ sym (zero_power e (omega arith))) i
past_64 (pos (suc zero)) e r h i = subst (λ n. IsInRange (pos n) r) (one_power (64 + e % 2) ∙ sym (one_power e)) i
past_64 (pos (suc (suc a))) e r h i = both_past _ _ r (past _ (great_power (suc (suc a)) (64 + e % 2) (omega arith) (omega arith))) (past _ (great_power (suc (suc a)) e (omega arith) h)) i
past_64 (negsuc zero) e r h i =
    let bits : ((64 + e % 2) % 2 == 0) ≡ (e % 2 == 0) = ap (λ k. k == 0) (same_bit e) in
    let ones : 1 ^ (64 + e % 2) ≡ 1 ^ e = one_power (64 + e % 2) ∙ sym (one_power e) in
    subst (λ z. IsInRange z r) (ap (λ c. cond c (pos (1 ^ (64 + e % 2))) (neg_ℤ (pos (1 ^ (64 + e % 2))))) bits ∙ ap (λ n. cond (e % 2 == 0) (pos n) (neg_ℤ (pos n))) ones) i
past_64 (negsuc (suc a)) e r h i = both_past _ _ r (below_past ((64 + e % 2) % 2 == 0) _ (great_power (suc (suc a)) (64 + e % 2) (omega arith) (omega arith))) (below_past (e % 2 == 0) _ (great_power (suc (suc a)) e (omega arith) h)) i

power_64 : (base z : ℤ) (r : Result ℤ Fault) → 64 ≤ unsigned_abs z → int_lt z (pos 0) ≡ false → IsInRange (int_pow base (64 + unsigned_abs z % 2)) r → IsPower base z r
power_64 base (pos e) r h k i = past_64 base e r h i
power_64 base (negsuc e) r h k i = absurd (cc)

-- the same of numbers that are equal to these
pub power_past : (base z b y : ℤ) (r : Result ℤ Fault) → b ≡ base → y ≡ z → 64 ≤ unsigned_abs y → int_lt y (pos 0) ≡ false → IsInRange (int_pow b (64 + unsigned_abs y % 2)) r → IsPower base z r
power_past base z b y r e f h k i =
    subst (λ x. IsPower base x r) f (power_64 base y r h k (subst (λ x. IsInRange (int_pow x (64 + unsigned_abs y % 2)) r) e i))
