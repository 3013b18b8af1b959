use Rattle.std.proofs.Common.{◌≡◌, suc, ◌+◌, ◌*◌, ◌/◌, ◌%◌, [], ◌∷◌, ◌++◌, ap, ap₂, sym, ◌∙◌, append_assoc, arith}
use Rattle.std.proofs.Math.Nat.{pow-suc}
use Rattle.farm_text.specs.Moment.{last_digits}
use Rattle.farm_text.specs.Digits.{digits_ahead}
use Rattle.farm_text.proofs.DateTimeLemmas.{digits_ahead-last_digits, digit_ahead, nine_digits, one_digit_more}
use Rattle.farm_text.proofs.date_time.leading_number.Goals as goal

pub returns-then-scale-eq1000000000-clause-none : goal.returns-then-scale-eq1000000000-clause-none
returns-then-scale-eq1000000000-clause-none c = λ _.
    let (k, upto, scale, below, all) = c.digits.invariant in
    let (digit, next) = c.in-Some.ensures.is in
    let nine = nine_digits k upto (sym scale ∙ omega (arith, c.if-scale-eq1000000000.true)) in
    omega (arith, nine, ap digits_ahead all, digits_ahead-last_digits k c.digits.number c.digits.rest.now, ap digits_ahead next, digit_ahead c.in-Some.digit c.in-Some.more.now digit)

pub digits-preserved : goal.digits-preserved
digits-preserved c =
    let (k, upto, scale, below, all) = c.digits.invariant in
    let (digit, next) = c.in-Some.ensures.is in
    let more = pow-suc 10 k in
    let n = c.digits.number in
    let high : (10 * n + c.from.result) / 10 ≡ n = omega (arith, digit, c.from.ensures) in
    let low : (10 * n + c.from.result) % 10 ≡ c.in-Some.digit = omega (arith, digit, c.from.ensures) in (
      suc k,
      one_digit_more k c.digits.scale upto scale c.if-scale-eq1000000000.false,
      omega (arith, more, scale),
      omega (arith, more, below, digit, c.from.ensures),
      all ∙ ap (λ r. last_digits k n ++ r) next ∙ sym (append_assoc (last_digits k n) ((48 + c.in-Some.digit) ∷ []) c.in-Some.more.now)
          ∙ ap₂ (λ a b. (last_digits k a ++ (48 + b) ∷ []) ++ c.in-Some.more.now) (sym high) (sym low),
    )
