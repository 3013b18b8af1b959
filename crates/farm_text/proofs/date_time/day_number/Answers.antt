use Rattle.std.proofs.Common.{◌≡◌, ℕ, ℤ, pos, to_z, ◌∙◌, arith}
use Rattle.std.proofs.lemmas.Bool.{false≢true}
use Rattle.std.specs.Int.{w8, w16}
use Rattle.std.proofs.lemmas.Int.{to_z_pos}
use Rattle.jiff_core.specs.Calendar.{IsCivilDate, IsDate, days_from_civil}
use Rattle.jiff_core.proofs.SignedLemmas.{signed_arith}
use Rattle.farm_text.proofs.DateTimeLemmas.{days_back}
use Rattle.farm_text.proofs.date_time.day_number.Goals as goal

-- a day of the calendar, and its number, by its parts
civil_of : (a : ℤ) (b e : ℕ) (y m d : ℕ) → a ≡ pos y → pos b ≡ pos m → pos e ≡ pos d → IsCivilDate a b e → IsCivilDate (pos y) m d
civil_of a b e y m d year month day civil =
    let same_month : b ≡ m = cc in
    let same_day : e ≡ d = cc in
    rw (year, same_month, same_day) at civil

number_of : (a : ℤ) (b e : ℕ) (y m d : ℕ) → a ≡ pos y → pos b ≡ pos m → pos e ≡ pos d → days_from_civil a b e ≡ days_from_civil (pos y) m d
number_of a b e y m d year month day =
    let same_month : b ≡ m = cc in
    let same_day : e ≡ d = cc in
    rw (year, same_month, same_day)

-- a day of the calendar has a date
date_of : (a b c : ℤ) (y m d : ℕ) → a ≡ pos y → b ≡ pos m → c ≡ pos d → IsCivilDate (pos y) m d → IsDate a b c
date_of a b c y m d year month day civil =
    rw (year, month, day) (civil.0, (omega (arith, signed_arith, civil.1.0), omega (arith, signed_arith, civil.1.1)), (omega (arith, signed_arith, civil.2.0), omega (arith, signed_arith, civil.2.1)))

pub returns-in-Ok-clause-is : goal.returns-in-Ok-clause-is
returns-in-Ok-clause-is c =
    let year : to_z w16 c.args.year ≡ pos c.args.year = to_z_pos w16 c.args.year (omega (arith, c.requires.year)) in
    let month : to_z w8 c.args.month ≡ pos c.args.month = to_z_pos w8 c.args.month (omega (arith, c.requires.month)) in
    let day : to_z w8 c.args.day ≡ pos c.args.day = to_z_pos w8 c.args.day (omega (arith, c.requires.day)) in
    let (same_year, same_month, same_day) = c.in-Ok.ensures.value in
    let date = c.in-Ok.date in (
      civil_of date.year date.month date.day c.args.year c.args.month c.args.day (same_year ∙ year) (same_month ∙ month) (same_day ∙ day) (date.year_in, date.month_in, date.day_in),
      days_back c.to_unix_epoch_day.result c.to_unix_epoch_day.ensures.bound ∙ c.to_unix_epoch_day.ensures.value ∙ number_of date.year date.month date.day c.args.year c.args.month c.args.day (same_year ∙ year) (same_month ∙ month) (same_day ∙ day),
    )

pub returns-in-Ok-clause-bound : goal.returns-in-Ok-clause-bound
returns-in-Ok-clause-bound c = rw (days_back c.to_unix_epoch_day.result c.to_unix_epoch_day.ensures.bound) c.to_unix_epoch_day.ensures.bound

pub returns-in-Err-clause-none : goal.returns-in-Err-clause-none
returns-in-Err-clause-none c = λ none civil.
    let year : to_z w16 c.args.year ≡ pos c.args.year = to_z_pos w16 c.args.year (omega (arith, c.requires.year)) in
    let month : to_z w8 c.args.month ≡ pos c.args.month = to_z_pos w8 c.args.month (omega (arith, c.requires.month)) in
    let day : to_z w8 c.args.day ≡ pos c.args.day = to_z_pos w8 c.args.day (omega (arith, c.requires.day)) in
    false≢true (c.in-Err.ensures.succeeds.1 (date_of (to_z w16 c.args.year) (to_z w8 c.args.month) (to_z w8 c.args.day) c.args.year c.args.month c.args.day year month day civil))
