-- What stands before the first place that passes a test, and what stands behind it.
use Rattle.std.proofs.Common.{◌≡◌, ℕ, ◌+◌, ◌-◌, Bool, true, false, not, cond, ltb, List, length, take, drop, Some, None, refl, sym, ap, ◌∙◌, arith}
use Rattle.std.specs.List.{before_first, after_first, position, position_or_len}
use Rattle.std.proofs.Math.Seq.{take-length}
use Rattle.std.proofs.lemmas.Bool.{ltb-false}
use Rattle.std.proofs.lemmas.List.{take_rest}
use Rattle.std.proofs.lemmas.List.Sums.{prefix_len-le-length}

module _ (p : ℕ → Bool) (bs : List ℕ) where
  first_by : (place : ℕ) (some : Bool) → cond some (Some (position_or_len p bs)) None ≡ Some place → position_or_len p bs ≡ place
  first_by place true e = cc
  first_by place false e = cc

  first-place : (place : ℕ) → position p bs ≡ Some place → position_or_len p bs ≡ place
  first-place place e = first_by place (ltb (position_or_len p bs) (length bs)) e

  none_by : (some : Bool) → ltb (position_or_len p bs) (length bs) ≡ some → cond some (Some (position_or_len p bs)) None ≡ None → position_or_len p bs ≡ length bs
  none_by true is e = cc
  none_by false is e = omega (arith, ltb-false (position_or_len p bs) (length bs) is, prefix_len-le-length (λ b. not (p b)) bs)

  no-place : position p bs ≡ None → position_or_len p bs ≡ length bs
  no-place e = none_by (ltb (position_or_len p bs) (length bs)) refl e

  pub before-found : (place : ℕ) → position p bs ≡ Some place → before_first p bs ≡ take place bs
  before-found place e = ap (λ n. take n bs) (first-place place e)

  pub before-none : position p bs ≡ None → before_first p bs ≡ bs
  before-none e = ap (λ n. take n bs) (no-place e) ∙ take-length bs

  pub after-found : (place : ℕ) → position p bs ≡ Some place → after_first p bs ≡ take (length bs - (place + 1)) (drop (place + 1) bs)
  after-found place e = ap (λ n. drop (n + 1) bs) (first-place place e) ∙ sym (take_rest bs (place + 1))
