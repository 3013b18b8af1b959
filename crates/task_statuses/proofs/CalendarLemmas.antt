-- The calendar counted out gives the text of each moment.
use Rattle.std.proofs.Common.{◌≡◌, ℕ, zero, suc, ◌+◌, ◌-◌, ◌/◌, ◌<◌, ◌≤◌, pos, refl, ap, inl, inr, arith}
use Rattle.std.proofs.lemmas.Bool.{cases_lt, lt-ltb, le-ltb}
use Rattle.jiff_core.specs.Calendar.{days_in_year, days_in_month, days_of_months, day_count, days_from_civil}
use Rattle.jiff_core.proofs.CalendarLemmas.{day_count-epoch, day_count-next_year, day_count-end, day_count-day_of_year, days_of_months-zero, days_of_months_more, days_of_months_all}
use Rattle.jiff_core.proofs.SignedLemmas.{signed_arith}
use Rattle.task_statuses.specs.Calendar.{Within, year_after, month_after, year_of, month_of, moment_text}
use Rattle.farm_text.specs.Moment.{IsMomentText}

-- ---- years

-- the first day of a year, counted
abbrev first_of : ℕ → ℕ
first_of year = day_count (pos year) 1 1

first_of-next : (year : ℕ) → first_of (suc year) ≡ first_of year + days_in_year (pos year)
first_of-next year = day_count-next_year (pos year) (pos (suc year)) (omega (arith, signed_arith)) (omega (arith, signed_arith))

-- the year that was counted to holds the day, and is at most this one
record IsYearOf (count latest : ℕ) (found : Within) : Type 0 where
  day : first_of found.number + found.days ≡ count
  within : found.days < days_in_year (pos found.number)
  until : found.number ≤ latest

last_year : (year days latest : ℕ) → year ≡ latest → first_of year + days < first_of (suc latest) → days < days_in_year (pos year)
last_year year days latest is before = omega (arith, before, first_of-next year, ap (λ y. first_of (suc y)) is)

year_after-is : (more year days count latest : ℕ) → first_of year + days ≡ count → year + more ≡ latest → count < first_of (suc latest) → IsYearOf count latest (year_after more year days)
year_after-is zero year days count latest here last before = record {
  day = here;
  within = last_year year days latest (omega (arith, last)) (omega (arith, here, before));
  until = omega (arith, last);
}
year_after-is (suc more) year days count latest here last before = elim (cases_lt days (days_in_year (pos year))) [
  | inl within ↦ rw (lt-ltb days (days_in_year (pos year)) within) (record { day = here; within = within; until = omega (arith, last) })
  | inr from ↦ rw (le-ltb days (days_in_year (pos year)) from) (year_after-is more (suc year) (days - days_in_year (pos year)) count latest
      (omega (arith, here, from, first_of-next year)) (omega (arith, last)) before)
]

-- ---- months

-- the month that was counted to holds the day of the year
record IsMonthOf (year day : ℕ) (found : Within) : Type 0 where
  from : 1 ≤ found.number
  until : found.number ≤ 12
  day_of : days_of_months (pos year) (found.number - 1) + found.days ≡ day
  within : found.days < days_in_month (pos year) found.number

last_month : (year month days day : ℕ) → month ≡ 12 → days_of_months (pos year) (month - 1) + days ≡ day → day < days_in_year (pos year) → days < days_in_month (pos year) month
last_month year month days day is here before =
    omega (arith, is, here, before, days_of_months_more (pos year) month (omega (arith, is)), days_of_months_all (pos year), ap (days_of_months (pos year)) is)

months_before : (year month : ℕ) → days_of_months (pos year) (suc month - 1) ≡ days_of_months (pos year) month
months_before year month = ap (days_of_months (pos year)) (before month)
  where
    before : (n : ℕ) → suc n - 1 ≡ n
    before n = omega arith

month_after-is : (more year month days day : ℕ) → 1 ≤ month → month + more ≡ 12 → days_of_months (pos year) (month - 1) + days ≡ day → day < days_in_year (pos year) → IsMonthOf year day (month_after more year month days)
month_after-is zero year month days day from last here before = record {
  from = from;
  until = omega (arith, last);
  day_of = here;
  within = last_month year month days day (omega (arith, last)) here before;
}
month_after-is (suc more) year month days day from last here before = elim (cases_lt days (days_in_month (pos year) month)) [
  | inl within ↦ rw (lt-ltb days (days_in_month (pos year) month) within) (record { from = from; until = omega (arith, last); day_of = here; within = within })
  | inr over ↦ rw (le-ltb days (days_in_month (pos year) month) over) (month_after-is more year (suc month) (days - days_in_month (pos year) month) day
      (omega arith) (omega (arith, last)) (omega (arith, here, over, days_of_months_more (pos year) month from, months_before year month)) before)
]

-- ---- moments

abbrev days_of : ℕ → ℕ
days_of millis = millis / 86_400_000

year_of-is : (millis : ℕ) → millis ≤ 253_402_300_799_999 → IsYearOf (4_371_953 + days_of millis) 9_999 (year_of millis)
year_of-is millis within = year_after-is 8_029 1_970 (days_of millis) (4_371_953 + days_of millis) 9_999 (omega (arith, day_count-epoch)) refl (omega (arith, within, day_count-end))

month_of-is : (millis : ℕ) → IsYearOf (4_371_953 + days_of millis) 9_999 (year_of millis) → IsMonthOf (year_of millis).number (year_of millis).days (month_of millis)
month_of-is millis year = month_after-is 11 (year_of millis).number 1 (year_of millis).days (year_of millis).days (omega arith) refl (omega (arith, days_of_months-zero (pos (year_of millis).number))) year.within

pub IsMomentText-moment_text : (millis : ℕ) → millis ≤ 253_402_300_799_999 → IsMomentText millis (moment_text millis)
unfolding moment_text days_from_civil
IsMomentText-moment_text millis within =
    let year = year_of-is millis within in
    let month = month_of-is millis year in
    let y = (year_of millis).number in
    let m = (month_of millis).number in
    let d = suc (month_of millis).days in
    let counted : day_count (pos y) m d ≡ 4_371_953 + days_of millis = omega (arith, day_count-day_of_year (pos y) m d (omega arith), year.day, month.day_of) in
    record {
      year = y;
      month = m;
      day = d;
      civil = ((omega (arith, signed_arith, year.until), omega (arith, signed_arith, year.until)), (month.from, month.until), (omega arith, omega (arith, month.within)));
      number = omega (arith, signed_arith, counted, day_count-epoch);
      spelled = refl;
    }
