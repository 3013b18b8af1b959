-- The text of a moment: RFC 3339's form with three digits of milliseconds, in UTC.
use Rattle.std.specs.Prelude.{◌≡◌, ℕ, zero, suc, ◌+◌, ◌/◌, ◌%◌, pos, List, [], ◌∷◌, ◌++◌}
use Rattle.jiff_core.specs.Calendar.{IsCivilDate, days_from_civil}

-- the last so many decimal digits of a number
abbrev pub last_digits : ℕ → ℕ → List ℕ
last_digits zero n = []
last_digits (suc width) n = last_digits width (n / 10) ++ (48 + n % 10) ∷ []

-- `YYYY-MM-DDTHH:MM:SS.mmmZ`, by the Gregorian calendar: days have 86,400,000 milliseconds, and day 0 is 1 January 1970
pub record IsMomentText (millis : ℕ) (text : List ℕ) : Type 0 where
  pub year : ℕ
  pub month : ℕ
  pub day : ℕ
  pub civil : IsCivilDate (pos year) month day
  pub number : days_from_civil (pos year) month day ≡ pos (millis / 86_400_000)
  pub spelled : text ≡ (last_digits 4 year ++ 45 ∷ (last_digits 2 month ++ 45 ∷ (last_digits 2 day ++ 84 ∷ (last_digits 2 (millis / 3_600_000 % 24) ++ 58 ∷ (last_digits 2 (millis / 60_000 % 60) ++ 58 ∷ (last_digits 2 (millis / 1_000 % 60) ++ 46 ∷ (last_digits 3 (millis % 1_000) ++ 90 ∷ [])))))))
