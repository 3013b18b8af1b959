use Rattle.std.proofs.Common.{◌∷◌, ◌++◌, refl, ap, ◌∙◌, arith}
use Rattle.farm_text.specs.Moment.{last_digits}
use Rattle.farm_text.proofs.date_time.hours_minutes.Goals as goal

pub returns-clause-is : goal.returns-clause-is
returns-clause-is c =
    let h = c.in_ok-hour.hour in
    let m = c.in_ok-minute.minute in (
      last_digits 2 h ++ 58 ∷ last_digits 2 m,
      (h, m, omega arith, omega arith, grind arith, refl),
      c.in_ok-hour.ensures.is ∙ ap (λ t. last_digits 2 h ++ t) c.in_ok-minute.ensures.is,
    )
