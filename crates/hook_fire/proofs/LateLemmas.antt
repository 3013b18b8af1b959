-- What is written of a moment is read as no other moment, and of one past the last that is read as none.
use Rattle.std.proofs.Common.{◌≡◌, ℕ, zero, suc, ◌+◌, ◌-◌, ◌*◌, ◌/◌, ◌%◌, ◌^◌, ◌<◌, ◌≤◌, ◌≤ℤ◌, List, [], ◌∷◌, ◌++◌, get_or, drop, ℤ, pos, refl, sym, ap, subst, ◌∙◌, inl, inr, arith, append_assoc}
use Rattle.std.proofs.Math.Nat.{pow-suc}
use Rattle.jiff_core.specs.Calendar.{days_from_civil, day_count, days_of_months}
use Rattle.jiff_core.proofs.SignedLemmas.{signed_arith}
use Rattle.farm_text.specs.DateTime.{IsDateTime, IsFullDate, IsOffset, IsHoursMinutes}
use Rattle.farm_text.specs.Moment.{IsMomentText, last_digits}
use Rattle.farm_text.proofs.OneMomentLemmas.{IsDateTime-one, year_below, day_below}

heads : {x y : ℕ} {xs ys : List ℕ} → x ∷ xs ≡ y ∷ ys → x ≡ y
heads {x} e = ap (λ l. get_or l 0 x) e

tails : {x y : ℕ} {xs ys : List ℕ} → x ∷ xs ≡ y ∷ ys → xs ≡ ys
tails e = ap (drop 1) e

-- so many digits are of one number
same_digits : (width a b : ℕ) (r s : List ℕ) → a < 10 ^ width → b < 10 ^ width → last_digits width a ++ r ≡ last_digits width b ++ s → (a ≡ b) × (r ≡ s)
same_digits zero a b r s below under e = (omega arith, e)
same_digits (suc width) a b r s below under e =
    let more = pow-suc 10 width in
    let whole = sym (append_assoc (last_digits width (a / 10)) ((48 + a % 10) ∷ []) r) ∙ e ∙ append_assoc (last_digits width (b / 10)) ((48 + b % 10) ∷ []) s in
    let (front, back) = same_digits width (a / 10) (b / 10) ((48 + a % 10) ∷ r) ((48 + b % 10) ∷ s) (omega (arith, more)) (omega (arith, more)) whole in
    (omega (arith, front, heads back), tails back)

-- ---- 3 January 1970, at the time of another day

abbrev day : List ℕ
day = last_digits 4 1970 ++ 45 ∷ (last_digits 2 1 ++ 45 ∷ last_digits 2 3)

two_days : days_from_civil (pos 1970) 1 3 ≡ pos 2
unfolding days_from_civil day_count days_of_months
two_days = omega (arith, signed_arith)

is_day : IsFullDate (pos 2) day
is_day =
    (1970, 1, 3, ((omega (arith, signed_arith), omega (arith, signed_arith)), (omega arith, omega arith), (omega arith, omega arith)), sym two_days, refl)

shift_below : (n : ℕ) (t : List ℕ) → IsHoursMinutes n t → n < 1_440
shift_below n t (h, m, hours, minutes, sum, text) = omega (arith, hours, minutes, sum)

offset_within : (z : ℤ) (t : List ℕ) → IsOffset z t → z ≤ℤ pos 1_440
offset_within z t (inl (none, text)) = omega (arith, signed_arith, none)
offset_within z t (inr (n, s, hm, inl e)) = omega (arith, signed_arith, e.0, shift_below n s hm)
offset_within z t (inr (n, s, hm, inr e)) = omega (arith, signed_arith, e.0)

same_days : (y m d v n e : ℕ) → y ≡ v → m ≡ n → d ≡ e → days_from_civil (pos y) m d ≡ days_from_civil (pos v) n e
same_days y m d v n e years months days = rw (years, months, days) refl

-- the time of a moment, as it is written
abbrev clock_text : ℕ → List ℕ
clock_text k =
    last_digits 2 (k / 3_600_000 % 24) ++ 58 ∷ (last_digits 2 (k / 60_000 % 60) ++ 58 ∷ (last_digits 2 (k / 1_000 % 60) ++ 46 ∷ (last_digits 3 (k % 1_000) ++ 90 ∷ [])))

-- a written moment and what it is read as have the same date and the same time
parts_same : (k n : ℕ) (t : List ℕ) (w : IsMomentText k t) (a : IsDateTime n t) → (a.days ≡ pos (k / 86_400_000)) × (a.time ++ (a.fraction ++ a.zone) ≡ clock_text k)
parts_same k n t w a =
    let (y, m, d, civil, number, date) = a.is_date in
    let ra = a.time ++ (a.fraction ++ a.zone) in
    let whole = sym (ap (λ (l : List ℕ). l ++ 84 ∷ ra) date) ∙ sym a.spelled ∙ w.spelled in
    let year = same_digits 4 y w.year (45 ∷ (last_digits 2 m ++ 45 ∷ (last_digits 2 d ++ 84 ∷ ra))) (45 ∷ (last_digits 2 w.month ++ 45 ∷ (last_digits 2 w.day ++ 84 ∷ clock_text k))) (year_below y m d civil) (year_below w.year w.month w.day w.civil) whole in
    let month = same_digits 2 m w.month (45 ∷ (last_digits 2 d ++ 84 ∷ ra)) (45 ∷ (last_digits 2 w.day ++ 84 ∷ clock_text k)) (omega (arith, civil.1.1)) (omega (arith, w.civil.1.1)) (tails year.1) in
    let date_day = same_digits 2 d w.day (84 ∷ ra) (84 ∷ clock_text k) (day_below y m d civil) (day_below w.year w.month w.day w.civil) (tails month.1) in
    (number ∙ same_days y m d w.year w.month w.day year.0 month.0 date_day.0 ∙ w.number, tails date_day.1)

-- the same time on 3 January 1970
moved : (k n : ℕ) (t : List ℕ) → 172_800_000 ≤ k → IsMomentText k t → (a : IsDateTime n t) → a.days ≡ pos (k / 86_400_000) → IsDateTime (n + 172_800_000 - k / 86_400_000 * 86_400_000) (day ++ 84 ∷ (a.time ++ (a.fraction ++ a.zone)))
moved k n t late w a days = record {
  days = pos 2;
  seconds = a.seconds;
  thousandths = a.thousandths;
  offset = a.offset;
  date = day;
  time = a.time;
  fraction = a.fraction;
  zone = a.zone;
  is_date = is_day;
  is_time = a.is_time;
  is_fraction = a.is_fraction;
  is_zone = a.is_zone;
  spelled = refl;
  moment = (omega (arith, signed_arith, a.moment.0, days, offset_within a.offset a.zone a.is_zone), omega (arith, a.moment.1));
}

written : (k : ℕ) → IsDateTime (172_800_000 + k % 86_400_000) (day ++ 84 ∷ clock_text k)
written k = record {
  days = pos 2;
  seconds = k / 1_000 % 86_400;
  thousandths = k % 1_000;
  offset = pos 0;
  date = day;
  time = last_digits 2 (k / 3_600_000 % 24) ++ 58 ∷ (last_digits 2 (k / 60_000 % 60) ++ 58 ∷ last_digits 2 (k / 1_000 % 60));
  fraction = 46 ∷ last_digits 3 (k % 1_000);
  zone = 90 ∷ [];
  is_date = is_day;
  is_time = (k / 3_600_000 % 24, k / 60_000 % 60, k / 1_000 % 60, omega arith, omega arith, omega arith, omega arith, refl);
  is_fraction = inr (3, k % 1_000, omega arith, omega arith, omega arith, omega arith, refl);
  is_zone = inl (refl, refl);
  spelled = refl;
  moment = (omega (arith, signed_arith), omega arith);
}

read_back : (k n : ℕ) (t : List ℕ) → 172_800_000 ≤ k → IsMomentText k t → IsDateTime n t → n ≡ k
read_back k n t late w a =
    let same = parts_same k n t w a in
    let one = IsDateTime-one (n + 172_800_000 - k / 86_400_000 * 86_400_000) (172_800_000 + k % 86_400_000) (day ++ 84 ∷ clock_text k)
    (subst (λ (r : List ℕ). IsDateTime (n + 172_800_000 - k / 86_400_000 * 86_400_000) (day ++ 84 ∷ r)) same.1 (moved k n t late w a same.0)) (written k) in
    omega (arith, one, late)

pub late_is_unread : (k : ℕ) (t : List ℕ) → 253_370_764_799_999 < k → IsMomentText k t → (n : ℕ) → ¬ IsDateTime n t
late_is_unread k t late w n a = omega (arith, read_back k n t (omega arith) w a, late, a.moment.1)
