use Rattle.std.proofs.Common.{◌+◌, ◌*◌, ◌∷◌, ◌++◌, refl, ap, sym, ◌∙◌, append_assoc, arith}
use Rattle.farm_text.specs.Moment.{last_digits}
use Rattle.farm_text.proofs.date_time.time_of_day.Goals as goal

pub returns-in_err-minutes-clause-only : goal.returns-in_err-minutes-clause-only
returns-in_err-minutes-clause-only c = λ seconds time rest is spelled.
    let (h, m, s, hours, minutes, within, sum, text) = is in
    absurd (c.in_err-minutes.ensures.only (60 * h + m) (last_digits 2 h ++ 58 ∷ last_digits 2 m) (58 ∷ (last_digits 2 s ++ rest)) (h, m, hours, minutes, refl, refl) (spelled ∙ ap (λ t. t ++ rest) text))

pub returns-in_err-second-clause-only : goal.returns-in_err-second-clause-only
returns-in_err-second-clause-only c = λ seconds time rest is spelled.
    let (h, m, s, hours, minutes, within, sum, text) = is in
    let first = c.in_ok-minutes.ensures.only (60 * h + m) (last_digits 2 h ++ 58 ∷ last_digits 2 m) (58 ∷ (last_digits 2 s ++ rest)) (h, m, hours, minutes, refl, refl) (spelled ∙ ap (λ t. t ++ rest) text) in
    absurd (c.in_err-second.ensures.only s rest (omega (arith, within)) first.1)

pub returns-clause-is : goal.returns-clause-is
returns-clause-is c =
    let s = c.in_ok-second.second in
    let (shift, (h, m, hours, minutes, sum, text), front) = c.in_ok-minutes.ensures.is in (
      shift ++ 58 ∷ last_digits 2 s,
      (h, m, s, hours, minutes, omega arith, omega (arith, sum, c.from.ensures), ap (λ t. t ++ 58 ∷ last_digits 2 s) text),
      front ∙ ap (λ t. shift ++ t) c.in_ok-second.ensures.is ∙ sym (append_assoc shift (58 ∷ last_digits 2 s) c.in_ok-second.rest.now),
    )
