use Rattle.std.proofs.Common.{◌≡◌, ◌<◌, ℕ, pos, ◌∷◌, ◌++◌, refl, sym, ap, ◌∙◌, arith}
use Rattle.jiff_core.specs.Calendar.{IsCivilDate, days_from_civil}
use Rattle.jiff_core.proofs.CalendarLemmas.{days_in_month_bounds}
use Rattle.jiff_core.proofs.SignedLemmas.{signed_arith}
use Rattle.farm_text.proofs.DateTimeLemmas.{days_back}
use Rattle.farm_text.specs.Moment.{last_digits}
use Rattle.farm_text.proofs.date_time.full_date.Goals as goal

year_below : (y m d : ℕ) → IsCivilDate (pos y) m d → y < 10_000
year_below y m d civil = omega (arith, signed_arith, civil.0.1)

day_below : (y m d : ℕ) → IsCivilDate (pos y) m d → d < 100
day_below y m d civil = omega (arith, civil.2.1, days_in_month_bounds (pos y) m)

pub returns-in_err-year-clause-only : goal.returns-in_err-year-clause-only
returns-in_err-year-clause-only c = λ days date rest is spelled.
    let (y, m, d, civil, number, text) = is in
    absurd (c.in_err-year.ensures.only y (45 ∷ (last_digits 2 m ++ 45 ∷ (last_digits 2 d ++ rest))) (year_below y m d civil) (spelled ∙ ap (λ t. t ++ rest) text))

pub returns-in_err-month-clause-only : goal.returns-in_err-month-clause-only
returns-in_err-month-clause-only c = λ days date rest is spelled.
    let (y, m, d, civil, number, text) = is in
    let year = c.in_ok-year.ensures.only y (45 ∷ (last_digits 2 m ++ 45 ∷ (last_digits 2 d ++ rest))) (year_below y m d civil) (spelled ∙ ap (λ t. t ++ rest) text) in
    absurd (c.in_err-month.ensures.only m (45 ∷ (last_digits 2 d ++ rest)) (omega (arith, civil.1.1)) year.1)

pub returns-in_err-day-clause-only : goal.returns-in_err-day-clause-only
returns-in_err-day-clause-only c = λ days date rest is spelled.
    let (y, m, d, civil, number, text) = is in
    let year = c.in_ok-year.ensures.only y (45 ∷ (last_digits 2 m ++ 45 ∷ (last_digits 2 d ++ rest))) (year_below y m d civil) (spelled ∙ ap (λ t. t ++ rest) text) in
    let month = c.in_ok-month.ensures.only m (45 ∷ (last_digits 2 d ++ rest)) (omega (arith, civil.1.1)) year.1 in
    absurd (c.in_err-day.ensures.only d rest (day_below y m d civil) month.1)

pub returns-in_err-days-clause-only : goal.returns-in_err-days-clause-only
returns-in_err-days-clause-only c = λ days date rest is spelled.
    let (y, m, d, civil, number, text) = is in
    let year = c.in_ok-year.ensures.only y (45 ∷ (last_digits 2 m ++ 45 ∷ (last_digits 2 d ++ rest))) (year_below y m d civil) (spelled ∙ ap (λ t. t ++ rest) text) in
    let month = c.in_ok-month.ensures.only m (45 ∷ (last_digits 2 d ++ rest)) (omega (arith, civil.1.1)) year.1 in
    let day = c.in_ok-day.ensures.only d rest (day_below y m d civil) month.1 in
    absurd (c.in_err-days.ensures.none refl (rw (year.0, month.0, day.0) civil))

pub returns-clause-is : goal.returns-clause-is
returns-clause-is c =
    let y = c.in_ok-year.year in
    let m = c.in_ok-month.month in
    let d = c.in_ok-day.day in
    let (civil, number) = c.in_ok-days.ensures.is in
    let back = days_back c.in_ok-days.days c.in_ok-days.ensures.bound in (
      last_digits 4 y ++ 45 ∷ (last_digits 2 m ++ 45 ∷ last_digits 2 d),
      (y, m, d, civil, back ∙ number, refl),
      c.in_ok-year.ensures.is ∙ ap (λ t. last_digits 4 y ++ t) (c.in_ok-month.ensures.is ∙ ap (λ t. 45 ∷ (last_digits 2 m ++ t)) c.in_ok-day.ensures.is),
    )

pub returns-clause-bound : goal.returns-clause-bound
returns-clause-bound c = rw (days_back c.in_ok-days.days c.in_ok-days.ensures.bound) c.in_ok-days.ensures.bound

pub returns-clause-only : goal.returns-clause-only
returns-clause-only c = λ days date rest is spelled.
    let (y, m, d, civil, number, text) = is in
    let year = c.in_ok-year.ensures.only y (45 ∷ (last_digits 2 m ++ 45 ∷ (last_digits 2 d ++ rest))) (year_below y m d civil) (spelled ∙ ap (λ t. t ++ rest) text) in
    let month = c.in_ok-month.ensures.only m (45 ∷ (last_digits 2 d ++ rest)) (omega (arith, civil.1.1)) year.1 in
    let day = c.in_ok-day.ensures.only d rest (day_below y m d civil) month.1 in
    let same : days_from_civil (pos c.in_ok-year.year) c.in_ok-month.month c.in_ok-day.day ≡ days_from_civil (pos y) m d = rw (year.0, month.0, day.0) refl in
    (days_back c.in_ok-days.days c.in_ok-days.ensures.bound ∙ c.in_ok-days.ensures.is.1 ∙ same ∙ sym number, day.1)
