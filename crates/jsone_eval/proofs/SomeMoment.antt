-- A moment up to the end of the year 9999 has a text.
use Rattle.std.proofs.Common.{◌≡◌, ℕ, zero, suc, ◌+◌, ◌/◌, ◌<◌, ◌≤◌, inl, inr, List, ℤ, pos, ◌-ℤ◌, refl, ap, subst, ◌∙◌, arith, rules}
use Rattle.std.proofs.lemmas.Bool.{cases_lt}
use Rattle.jiff_core.specs.Calendar.{IsCivilDate, IsYear, day_count, days_from_civil, days_in_month, days_in_year}
use Rattle.jiff_core.proofs.CalendarLemmas.{day_count-epoch, day_count-day, day_count-next_month, day_count-next_year, day_count-last_of_year, day_count-end, days_in_month_bounds}
use Rattle.jiff_core.proofs.SignedLemmas.{signed_arith}
use Rattle.farm_text.specs.Moment.{IsMomentText}

-- a day of the calendar, so many days after 1 January 1970
record HasDay (n : ℕ) : Type 0 where
  pub year : ℕ
  pub month : ℕ
  pub day : ℕ
  pub civil : IsCivilDate (pos year) month day
  pub count : day_count (pos year) month day ≡ 4_371_953 + n

first_day : HasDay 0
first_day = record {
  year = 1970;
  month = 1;
  day = 1;
  civil = (search (rules, signed_arith), search rules, (omega arith, omega (arith, days_in_month_bounds (pos 1970) 1)));
  count = day_count-epoch;
}

next_in_month : (y m d n : ℕ) → IsCivilDate (pos y) m d → d < days_in_month (pos y) m → day_count (pos y) m d ≡ 4_371_953 + n → HasDay (suc n)
next_in_month y m d n civil less at = record {
  year = y;
  month = m;
  day = suc d;
  civil = (civil.0, civil.1, (omega arith, omega arith));
  count = omega (arith, day_count-day (pos y) m d (suc d) civil.2.0 (omega arith));
}

next_month : (y m d n : ℕ) → IsCivilDate (pos y) m d → m < 12 → days_in_month (pos y) m ≤ d → day_count (pos y) m d ≡ 4_371_953 + n → HasDay (suc n)
next_month y m d n civil less last at = record {
  year = y;
  month = m + 1;
  day = 1;
  civil = (civil.0, (omega arith, omega arith), (omega arith, omega (arith, days_in_month_bounds (pos y) (m + 1))));
  count = omega (arith, day_count-next_month (pos y) m civil.1.0, day_count-day (pos y) m d 1 civil.2.0 (omega arith));
}

year_bound : (y : ℕ) → IsYear (pos y) → y ≤ 9999
year_bound y is = omega (arith, signed_arith, is.1)

is_year : (y : ℕ) → y ≤ 9999 → IsYear (pos y)
is_year y upto = (search (rules, signed_arith), omega (arith, signed_arith))

next_year : (y m d n : ℕ) → IsCivilDate (pos y) m d → 12 ≤ m → days_in_month (pos y) m ≤ d → n < 2_932_896 → day_count (pos y) m d ≡ 4_371_953 + n → HasDay (suc n)
next_year y m d n civil late last upto at =
    let december : m ≡ 12 = omega arith in
    let size : days_in_month (pos y) m ≡ 31 = ap (days_in_month (pos y)) december in
    let end : d ≡ 31 = omega arith in
    let here : day_count (pos y) 12 31 ≡ 4_371_953 + n = subst (λ k. day_count (pos y) k 31 ≡ 4_371_953 + n) december (subst (λ k. day_count (pos y) m k ≡ 4_371_953 + n) end at) in
    let later : day_count (pos (suc y)) 1 1 ≡ day_count (pos y) 1 1 + days_in_year (pos y) = day_count-next_year (pos y) (pos (suc y)) (search (rules, signed_arith)) (omega (arith, signed_arith)) in
    let counted : day_count (pos (suc y)) 1 1 ≡ 4_371_953 + suc n = omega (arith, later, here, day_count-last_of_year (pos y)) in
    record {
      year = suc y;
      month = 1;
      day = 1;
      civil = (
        elim (cases_lt y 9999) [
          | inl less ↦ is_year (suc y) (omega arith)
          | inr more ↦
              let bound = year_bound y civil.0 in
              let top : y ≡ 9999 = omega arith in
              let over : day_count (pos 10000) 1 1 ≡ 4_371_953 + suc n = subst (λ k. day_count (pos (suc k)) 1 1 ≡ 4_371_953 + suc n) top counted in
              absurd (omega (arith, over, day_count-end))
        ],
        (omega arith, omega arith),
        (omega arith, omega (arith, days_in_month_bounds (pos (suc y)) 1)),
      );
      count = counted;
    }

next_day : (n : ℕ) → n < 2_932_896 → HasDay n → HasDay (suc n)
next_day n upto h = elim (cases_lt h.day (days_in_month (pos h.year) h.month)) [
  | inl less ↦ next_in_month h.year h.month h.day n h.civil less h.count
  | inr last ↦ elim (cases_lt h.month 12) [
    | inl early ↦ next_month h.year h.month h.day n h.civil early last h.count
    | inr late ↦ next_year h.year h.month h.day n h.civil late last upto h.count
  ]
]

has_day : (n : ℕ) → n ≤ 2_932_896 → HasDay n
has_day zero upto = first_day
has_day (suc n) upto = next_day n (omega arith) (has_day n (omega arith))

numbered : (count n : ℕ) → count ≡ 4_371_953 + n → pos count -ℤ pos 4_371_953 ≡ pos n
numbered count n e = omega (arith, signed_arith, e)

number_of : (y : ℤ) (m d n : ℕ) → day_count y m d ≡ 4_371_953 + n → days_from_civil y m d ≡ pos n
unfolding days_from_civil
number_of y m d n e = ap (λ k. pos (day_count y m d) -ℤ pos k) day_count-epoch ∙ numbered (day_count y m d) n e

pub moment_text : (millis : ℕ) → millis ≤ 253_402_300_799_999 → (text : List ℕ) × IsMomentText millis text
moment_text millis upto =
    let h = has_day (millis / 86_400_000) (omega arith) in
    (_, record { year = h.year; month = h.month; day = h.day; civil = h.civil; number = number_of (pos h.year) h.month h.day (millis / 86_400_000) h.count; spelled = refl })
