-- The texts that are read as a moment: RFC 3339's date-time, with `T` and `Z` in capitals and no leap second.
use Rattle.std.specs.Prelude.{◌≡◌, ℕ, ◌+◌, ◌*◌, ◌/◌, ◌^◌, ◌<◌, ◌≤◌, ◌⊎◌, ℤ, pos, neg_ℤ, ◌+ℤ◌, ◌-ℤ◌, ◌*ℤ◌, List, [], ◌∷◌, ◌++◌}
use Rattle.jiff_core.specs.Calendar.{IsCivilDate, days_from_civil}
use Rattle.farm_text.specs.Moment.{last_digits}

-- `YYYY-MM-DD`, a day of the Gregorian calendar: so many days after 1 January 1970
abbrev pub IsFullDate : ℤ → List ℕ → Type 0
IsFullDate days text =
    (year : ℕ) × (month : ℕ) × (day : ℕ) × IsCivilDate (pos year) month day × (days ≡ days_from_civil (pos year) month day)
    × (text ≡ last_digits 4 year ++ 45 ∷ (last_digits 2 month ++ 45 ∷ last_digits 2 day))

-- `HH:MM:SS`, with hours to 23, and minutes and seconds to 59: so many seconds after midnight
abbrev pub IsTimeOfDay : ℕ → List ℕ → Type 0
IsTimeOfDay seconds text =
    (hour : ℕ) × (minute : ℕ) × (second : ℕ) × (hour < 24) × (minute < 60) × (second < 60) × (seconds ≡ 3_600 * hour + 60 * minute + second)
    × (text ≡ last_digits 2 hour ++ 58 ∷ (last_digits 2 minute ++ 58 ∷ last_digits 2 second))

-- nothing, or `.` and 1 to 9 digits: so many thousandths of a second, where the digits after the third are dropped
abbrev pub IsFraction : ℕ → List ℕ → Type 0
IsFraction thousandths text =
    ((thousandths ≡ 0) × (text ≡ []))
    ⊎ ((digits : ℕ) × (n : ℕ) × (1 ≤ digits) × (digits ≤ 9) × (n < 10 ^ digits) × (thousandths ≡ n * 1_000 / 10 ^ digits) × (text ≡ 46 ∷ last_digits digits n))

-- `hh:mm`, with hours to 23 and minutes to 59: so many minutes
abbrev pub IsHoursMinutes : ℕ → List ℕ → Type 0
IsHoursMinutes minutes text =
    (hour : ℕ) × (minute : ℕ) × (hour < 24) × (minute < 60) × (minutes ≡ 60 * hour + minute) × (text ≡ last_digits 2 hour ++ 58 ∷ last_digits 2 minute)

-- `Z`, `+hh:mm` or `-hh:mm`: the local time is so many minutes ahead of UTC
abbrev pub IsOffset : ℤ → List ℕ → Type 0
IsOffset minutes text =
    ((minutes ≡ pos 0) × (text ≡ 90 ∷ []))
    ⊎ ((n : ℕ) × (shift : List ℕ) × IsHoursMinutes n shift × (((minutes ≡ pos n) × (text ≡ 43 ∷ shift)) ⊎ ((minutes ≡ neg_ℤ (pos n)) × (text ≡ 45 ∷ shift))))

-- the moment of a local time: it lies from 1970 to 9998-12-31T23:59:59.999Z
abbrev pub IsLocalTime : ℕ → ℤ → ℕ → ℕ → ℤ → Type 0
IsLocalTime millis days seconds thousandths offset =
    (pos millis ≡ (days *ℤ pos 86_400_000 +ℤ pos (1_000 * seconds + thousandths)) -ℤ offset *ℤ pos 60_000) × (millis ≤ 253_370_764_799_999)

-- the text is a local date and time with its offset from UTC, and this is its moment
pub record IsDateTime (millis : ℕ) (text : List ℕ) : Type 0 where
  pub days : ℤ
  pub seconds : ℕ
  pub thousandths : ℕ
  pub offset : ℤ
  pub date : List ℕ
  pub time : List ℕ
  pub fraction : List ℕ
  pub zone : List ℕ
  pub is_date : IsFullDate days date
  pub is_time : IsTimeOfDay seconds time
  pub is_fraction : IsFraction thousandths fraction
  pub is_zone : IsOffset offset zone
  pub spelled : text ≡ date ++ 84 ∷ (time ++ (fraction ++ zone))
  pub moment : IsLocalTime millis days seconds thousandths offset
