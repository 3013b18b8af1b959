-- The day of a moment, and that a moment has one text.
use Rattle.std.proofs.Common.{◌≡◌, ℕ, zero, suc, [], ◌∷◌, ◌++◌, ◌%◌, ◌/◌, ◌+◌, ◌<◌, IsAscii, List, ℤ, pos, negsuc, ◌<ℤ◌, unsigned_abs, refl, sym, ◌∙◌, arith, rules}
use Rattle.jiff_core.specs.declared.civil.date.Date.{Date}
use Rattle.jiff_core.specs.Calendar.{IsCivilDate, days_from_civil}
use Rattle.jiff_core.proofs.CalendarLemmas.{day_count-epoch, days_from_civil-day_count, day_count-lt_year}
use Rattle.jiff_core.proofs.DateLemmas.{epoch_day_injective}
use Rattle.jiff_core.proofs.SignedLemmas.{signed_arith}
use Rattle.std.proofs.lemmas.Str.{IsAscii-append}
use Rattle.std.proofs.lemmas.Str.Ascii.{IsAscii-nil, IsAscii-cons}
use Rattle.farm_text.specs.Moment.{IsMomentText, last_digits}

-- a day from 1970 on lies in a year that is not negative
pub year_of_later_day : (y : ℤ) (m d n : ℕ) → IsCivilDate y m d → days_from_civil y m d ≡ pos n → pos (unsigned_abs y) ≡ y
year_of_later_day (pos k) m d n civil e = refl
year_of_later_day (negsuc k) m d n civil e =
    let before : negsuc k <ℤ pos 1970 = search rules in
    absurd (omega (arith, signed_arith, days_from_civil-day_count (negsuc k) m d, day_count-epoch, day_count-lt_year (negsuc k) m d (pos 1970) 1 1 civil (omega arith) before))

civil_date : (y m d : ℕ) → IsCivilDate (pos y) m d → Date
civil_date y m d civil = record { year = pos y; month = m; day = d; year_in = civil.0; month_in = civil.1; day_in = civil.2 }

pub IsMomentText-one : (millis : ℕ) (a b : List ℕ) → IsMomentText millis a → IsMomentText millis b → a ≡ b
unfolding civil_date
IsMomentText-one millis a b x y =
    let same = epoch_day_injective (civil_date x.year x.month x.day x.civil) (civil_date y.year y.month y.day y.civil) (x.number ∙ sym y.number) in
    let year : x.year ≡ y.year = cc same.0 in
    x.spelled ∙ rw (year, same.1, same.2) (sym y.spelled)

IsAscii-last_digits : (width n : ℕ) → IsAscii (last_digits width n)
IsAscii-last_digits zero n = IsAscii-nil
IsAscii-last_digits (suc width) n = IsAscii-append (last_digits width (n / 10)) _ (IsAscii-last_digits width (n / 10)) (IsAscii-cons (48 + n % 10) [] (omega arith) IsAscii-nil)

-- so many digits, a mark and the rest
IsAscii-part : (width n mark : ℕ) (rest : List ℕ) → mark < 128 → IsAscii rest → IsAscii (last_digits width n ++ mark ∷ rest)
IsAscii-part width n mark rest lt ascii = IsAscii-append (last_digits width n) _ (IsAscii-last_digits width n) (IsAscii-cons mark rest lt ascii)

-- the text of a moment is ASCII
pub IsMomentText-ascii : (millis : ℕ) (text : List ℕ) → IsMomentText millis text → IsAscii text
IsMomentText-ascii millis text w =
    let milli_text : List ℕ = last_digits 3 (millis % 1_000) ++ 90 ∷ [] in
    let milli_ascii : IsAscii milli_text = IsAscii-part 3 (millis % 1_000) 90 [] (omega arith) IsAscii-nil in
    let second_text : List ℕ = last_digits 2 (millis / 1_000 % 60) ++ 46 ∷ milli_text in
    let second_ascii : IsAscii second_text = IsAscii-part 2 (millis / 1_000 % 60) 46 milli_text (omega arith) milli_ascii in
    let minute_text : List ℕ = last_digits 2 (millis / 60_000 % 60) ++ 58 ∷ second_text in
    let minute_ascii : IsAscii minute_text = IsAscii-part 2 (millis / 60_000 % 60) 58 second_text (omega arith) second_ascii in
    let hour_text : List ℕ = last_digits 2 (millis / 3_600_000 % 24) ++ 58 ∷ minute_text in
    let hour_ascii : IsAscii hour_text = IsAscii-part 2 (millis / 3_600_000 % 24) 58 minute_text (omega arith) minute_ascii in
    let day_text : List ℕ = last_digits 2 w.day ++ 84 ∷ hour_text in
    let day_ascii : IsAscii day_text = IsAscii-part 2 w.day 84 hour_text (omega arith) hour_ascii in
    let month_text : List ℕ = last_digits 2 w.month ++ 45 ∷ day_text in
    let month_ascii : IsAscii month_text = IsAscii-part 2 w.month 45 day_text (omega arith) day_ascii in
    let year_text : List ℕ = last_digits 4 w.year ++ 45 ∷ month_text in
    let year_ascii : IsAscii year_text = IsAscii-part 4 w.year 45 month_text (omega arith) month_ascii in
    rw w.spelled year_ascii
