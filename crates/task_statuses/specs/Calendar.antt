-- The text of a moment, counted out by the Gregorian calendar (RFC 3339): from 1 January 1970 on year by year, then month by month.
use Rattle.std.specs.Prelude.{ℕ, zero, suc, ◌-◌, ◌/◌, ◌%◌, nat_lt, pos, List, [], ◌∷◌, ◌++◌, if◌then◌else◌}
use Rattle.jiff_core.specs.Calendar.{days_in_year, days_in_month}
use Rattle.farm_text.specs.Moment.{last_digits}

-- a year or a month, and how many days lie behind its first
pub record Within : Type 0 where
  pub number : ℕ
  pub days : ℕ

-- the year that lies so many days after the first of this one, at most `more` years on
abbrev pub year_after : ℕ → ℕ → ℕ → Within
year_after zero year days = record { number = year; days = days }
year_after (suc more) year days =
    if nat_lt days (days_in_year (pos year)) then record { number = year; days = days }
    else year_after more (suc year) (days - days_in_year (pos year))

-- the month that lies so many days after the first of this one in a year, at most `more` months on
abbrev pub month_after : ℕ → ℕ → ℕ → ℕ → Within
month_after zero year month days = record { number = month; days = days }
month_after (suc more) year month days =
    if nat_lt days (days_in_month (pos year) month) then record { number = month; days = days }
    else month_after more year (suc month) (days - days_in_month (pos year) month)

-- the year of a moment, which is 9999 at most
abbrev pub year_of : ℕ → Within
year_of millis = year_after 8_029 1_970 (millis / 86_400_000)

-- the month of a moment in its year
abbrev pub month_of : ℕ → Within
month_of millis = month_after 11 (year_of millis).number 1 (year_of millis).days

-- `YYYY-MM-DDTHH:MM:SS.mmmZ`
unfoldable pub moment_text : ℕ → List ℕ
moment_text millis =
    last_digits 4 (year_of millis).number ++ 45 ∷ (last_digits 2 (month_of millis).number ++ 45 ∷ (last_digits 2 (suc (month_of millis).days) ++ 84
    ∷ (last_digits 2 (millis / 3_600_000 % 24) ++ 58 ∷ (last_digits 2 (millis / 60_000 % 60) ++ 58 ∷ (last_digits 2 (millis / 1_000 % 60) ++ 46
    ∷ (last_digits 3 (millis % 1_000) ++ 90 ∷ []))))))
