use Rattle.std.proofs.Common.{◌≡◌, ◌+◌, ◌/◌, ◌%◌, ◌∷◌, ◌++◌, ap₂, ◌∙◌, arith}
use Rattle.farm_text.specs.Moment.{last_digits}
use Rattle.farm_text.proofs.date_time.four_digits.Goals as goal

pub returns-in_err-low-clause-only : goal.returns-in_err-low-clause-only
returns-in_err-low-clause-only c = λ n rest lt spelled.
    let first = c.in_ok-high.ensures.only (n / 10 / 10) (last_digits 2 n ++ rest) (omega arith) spelled in
    let tens : n / 10 % 10 ≡ n % 100 / 10 % 10 = omega arith in
    let ones : n % 10 ≡ n % 100 % 10 = omega arith in
    absurd (c.in_err-low.ensures.only (n % 100) rest (omega arith) (first.1 ∙ ap₂ (λ a b. (48 + a) ∷ (48 + b) ∷ rest) tens ones))
