use Rattle.std.proofs.Common.{◌≡◌, ◌<◌, ◌-ℤ◌, to_z, of_z, to_z-of_z, pos, neg_ℤ, subst, ◌∙◌, inl, inr, arith}
use Rattle.std.specs.Int.{w32}
use Rattle.std.proofs.lemmas.Int.{to_z_pos}
use Rattle.jiff_core.proofs.SignedLemmas.{signed_arith, fits_between}
use Rattle.farm_text.specs.DateTime.{IsOffset}
use Rattle.farm_text.proofs.DateTimeLemmas.{offset_plus, offset_minus}
use Rattle.farm_text.proofs.date_time.offset.Goals as goal

pub returns-in_err-whole_shift-clause-only : goal.returns-in_err-whole_shift-clause-only
returns-in_err-whole_shift-clause-only c = λ minutes is.
    let (n, shift, same) = offset_plus minutes c.in-Some.shift.now (subst (IsOffset minutes) c.in-Some.ensures.is is) in
    let wrong = c.in_err-whole_shift.ensures.only n shift in
    grind (arith, wrong)

pub returns-in-Some-clause-is : goal.returns-in-Some-clause-is
returns-in-Some-clause-is c =
    inr (c.in_ok-whole_shift.field-0, c.in-Some.shift.now, c.in_ok-whole_shift.ensures.is, inl (to_z_pos w32 c.in_ok-whole_shift.field-0 (omega (arith, c.in_ok-whole_shift.ensures.bound)), c.in-Some.ensures.is))

pub returns-in_err-whole_shift-2-clause-only : goal.returns-in_err-whole_shift-2-clause-only
returns-in_err-whole_shift-2-clause-only c = λ minutes is.
    let (n, shift, same) = offset_minus minutes c.in-Some-after.shift.now (subst (IsOffset minutes) c.in-Some-after.ensures.is is) in
    let wrong = c.in_err-whole_shift-2.ensures.only n shift in
    grind (arith, wrong)

pub returns-in-Some-after-clause-is : goal.returns-in-Some-after-clause-is
returns-in-Some-after-clause-is c =
    let n = c.in_ok-whole_shift-2.field-0 in
    let bound : n < 1_440 = c.in_ok-whole_shift-2.ensures.bound in
    let forth : to_z w32 n ≡ pos n = to_z_pos w32 n (omega (arith, bound)) in
    let back : to_z w32 (of_z w32 (pos 0 -ℤ pos n)) ≡ pos 0 -ℤ pos n = to_z-of_z (fits_between w32 (pos 0 -ℤ pos n) (omega (arith, signed_arith, bound), omega (arith, signed_arith, bound))) in
    let minus : pos 0 -ℤ pos n ≡ neg_ℤ (pos n) = omega (arith, signed_arith) in
    inr (n, c.in-Some-after.shift.now, c.in_ok-whole_shift-2.ensures.is, inr (rw forth (back ∙ minus), c.in-Some-after.ensures.is))
