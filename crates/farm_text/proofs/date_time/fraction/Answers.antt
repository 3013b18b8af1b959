use Rattle.std.proofs.Common.{◌≡◌, ℕ, ◌*◌, ◌/◌, ◌^◌, ◌<◌, ◌≤◌, List, ◌∷◌, ◌++◌, ℤ, refl, sym, ap, ◌∙◌, inl, inr, arith}
use Rattle.farm_text.specs.DateTime.{IsFraction, IsOffset}
use Rattle.farm_text.specs.Moment.{last_digits}
use Rattle.farm_text.specs.Digits.{digits_ahead}
use Rattle.farm_text.proofs.DateTimeLemmas.{tails, offset_point, offset_ahead, digits_ahead-last_digits, same_digits, some_digit}
use Rattle.farm_text.proofs.date_time.fraction.Goals as goal

-- a fraction and an offset that begin with a point
pointed : (t : ℕ) (minutes : ℤ) (f zone text rest : List ℕ) → IsFraction t f → IsOffset minutes zone → text ≡ f ++ zone → text ≡ 46 ∷ rest
    → (digits : ℕ) × (n : ℕ) × (1 ≤ digits) × (digits ≤ 9) × (n < 10 ^ digits) × (t ≡ n * 1_000 / 10 ^ digits) × (rest ≡ last_digits digits n ++ zone)
pointed t minutes f zone text rest (inl none) is whole point = absurd (offset_point minutes zone rest is (sym (whole ∙ ap (λ l. l ++ zone) none.1) ∙ point))
pointed t minutes f zone text rest (inr (digits, n, some, upto, below, value, text_is)) is whole point =
    (digits, n, some, upto, below, value, tails (sym point ∙ whole ∙ ap (λ l. l ++ zone) text_is))

pub returns-in_err-number-clause-only : goal.returns-in_err-number-clause-only
returns-in_err-number-clause-only c = λ t minutes f zone is offset whole.
    let (digits, n, some, upto, below, value, rest) = pointed t minutes f zone c.args.text.now c.in-Some.digits.now is offset whole c.in-Some.ensures.is in
    absurd (omega (arith, c.in_err-number.ensures.none refl, upto, ap digits_ahead rest, digits_ahead-last_digits digits n zone, offset_ahead minutes zone offset))

pub returns-then-scale-eq1-clause-only : goal.returns-then-scale-eq1-clause-only
returns-then-scale-eq1-clause-only c = λ t minutes f zone is offset whole.
    let (digits, n, some, upto, below, value, rest) = pointed t minutes f zone c.args.text.now c.in-Some.digits.now is offset whole c.in-Some.ensures.is in
    let (k, most, scale, less, read, stop) = c.in_ok-number.ensures.is in
    let none = some_digit k c.in_ok-number.scale scale in
    omega (arith, some, none, c.if-scale-eq1.true, ap digits_ahead rest, digits_ahead-last_digits digits n zone, offset_ahead minutes zone offset, ap digits_ahead read, digits_ahead-last_digits k c.in_ok-number.number c.in_ok-number.rest.now, stop)

pub returns-clause-is : goal.returns-clause-is
returns-clause-is c =
    let (k, most, scale, less, read, stop) = c.in_ok-number.ensures.is in
    let some : 1 ≤ k = elim (some_digit k c.in_ok-number.scale scale) [ inl (one, none) ↦ absurd (c.if-scale-eq1.false one) | inr (here, other) ↦ here ] in (
      46 ∷ last_digits k c.in_ok-number.number,
      inr (k, c.in_ok-number.number, some, most, less, ap (λ s. c.in_ok-number.number * 1_000 / s) scale, refl),
      c.in-Some.ensures.is ∙ ap (λ l. 46 ∷ l) read,
    )

pub returns-clause-only : goal.returns-clause-only
returns-clause-only c = λ t minutes f zone is offset whole.
    let (digits, n, some, upto, below, value, rest) = pointed t minutes f zone c.args.text.now c.in-Some.digits.now is offset whole c.in-Some.ensures.is in
    let (k, most, scale, less, read, stop) = c.in_ok-number.ensures.is in
    let count : k ≡ digits = omega (arith, ap digits_ahead rest, digits_ahead-last_digits digits n zone, offset_ahead minutes zone offset, ap digits_ahead read, digits_ahead-last_digits k c.in_ok-number.number c.in_ok-number.rest.now, stop) in
    let (number, left) = same_digits digits c.in_ok-number.number n c.in_ok-number.rest.now zone (rw (← count) less) below (rw (← count) (sym read) ∙ rest) in
    (rw (number, scale, count) (sym value), left)
