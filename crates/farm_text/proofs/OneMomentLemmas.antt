-- A text is the date-time of one moment: its parts stand in it in one way.
use Rattle.std.proofs.Common.{◌≡◌, ℕ, ◌*◌, ◌/◌, ◌%◌, ◌^◌, ◌<◌, List, [], ◌∷◌, ◌++◌, ℤ, pos, neg_ℤ, refl, sym, ap, subst, ◌∙◌, inl, inr, arith}
use Rattle.jiff_core.specs.Calendar.{IsCivilDate, days_from_civil}
use Rattle.jiff_core.proofs.CalendarLemmas.{days_in_month_bounds}
use Rattle.jiff_core.proofs.SignedLemmas.{signed_arith}
use Rattle.farm_text.specs.DateTime.{IsFullDate, IsTimeOfDay, IsFraction, IsHoursMinutes, IsOffset, IsLocalTime, IsDateTime}
use Rattle.farm_text.specs.Digits.{digits_ahead}
use Rattle.farm_text.specs.Moment.{IsMomentText, last_digits}
use Rattle.farm_text.proofs.DateTimeLemmas.{tails, offset_plus, offset_minus, offset_zero, offset_mark, offset_ahead, offset_point, digits_ahead-last_digits, same_digits}

pub year_below : (y m d : ℕ) → IsCivilDate (pos y) m d → y < 10_000
year_below y m d civil = omega (arith, signed_arith, civil.0.1)

pub day_below : (y m d : ℕ) → IsCivilDate (pos y) m d → d < 100
day_below y m d civil = omega (arith, civil.2.1, days_in_month_bounds (pos y) m)

same_days : (y m d v n e : ℕ) → y ≡ v → m ≡ n → d ≡ e → days_from_civil (pos y) m d ≡ days_from_civil (pos v) n e
same_days y m d v n e years months days = rw (years, months, days) refl

one_date : (a b : ℤ) (s t r u : List ℕ) → IsFullDate a s → IsFullDate b t → s ++ r ≡ t ++ u → (a ≡ b) × (r ≡ u)
one_date a b s t r u (y, m, d, civil, number, text) (v, n, e, other, counted, read) same =
    let whole = sym (ap (λ l. l ++ r) text) ∙ same ∙ ap (λ l. l ++ u) read in
    let year = same_digits 4 y v (45 ∷ (last_digits 2 m ++ 45 ∷ (last_digits 2 d ++ r))) (45 ∷ (last_digits 2 n ++ 45 ∷ (last_digits 2 e ++ u))) (year_below y m d civil) (year_below v n e other) whole in
    let month = same_digits 2 m n (45 ∷ (last_digits 2 d ++ r)) (45 ∷ (last_digits 2 e ++ u)) (omega (arith, civil.1.1)) (omega (arith, other.1.1)) (tails year.1) in
    let day = same_digits 2 d e r u (day_below y m d civil) (day_below v n e other) (tails month.1) in
    (number ∙ same_days y m d v n e year.0 month.0 day.0 ∙ sym counted, day.1)

one_time : (a b : ℕ) (s t r u : List ℕ) → IsTimeOfDay a s → IsTimeOfDay b t → s ++ r ≡ t ++ u → (a ≡ b) × (r ≡ u)
one_time a b s t r u (h, m, z, hours, minutes, seconds, sum, text) (i, n, x, hours-2, minutes-2, seconds-2, sum-2, read) same =
    let whole = sym (ap (λ l. l ++ r) text) ∙ same ∙ ap (λ l. l ++ u) read in
    let hour = same_digits 2 h i (58 ∷ (last_digits 2 m ++ 58 ∷ (last_digits 2 z ++ r))) (58 ∷ (last_digits 2 n ++ 58 ∷ (last_digits 2 x ++ u))) (omega (arith, hours)) (omega (arith, hours-2)) whole in
    let minute = same_digits 2 m n (58 ∷ (last_digits 2 z ++ r)) (58 ∷ (last_digits 2 x ++ u)) (omega (arith, minutes)) (omega (arith, minutes-2)) (tails hour.1) in
    let second = same_digits 2 z x r u (omega (arith, seconds)) (omega (arith, seconds-2)) (tails minute.1) in
    (omega (arith, sum, sum-2, hour.0, minute.0, second.0), second.1)

one_shift : (a b : ℕ) (t : List ℕ) → IsHoursMinutes a t → IsHoursMinutes b t → a ≡ b
one_shift a b t (h, m, hours, minutes, sum, text) (i, n, hours-2, minutes-2, sum-2, read) =
    let hour = same_digits 2 h i (58 ∷ last_digits 2 m) (58 ∷ last_digits 2 n) (omega (arith, hours)) (omega (arith, hours-2)) (sym text ∙ read) in
    let minute = same_digits 2 m n [] [] (omega (arith, minutes)) (omega (arith, minutes-2)) (tails hour.1) in
    omega (arith, sum, sum-2, hour.0, minute.0)

one_offset : (a b : ℤ) (t : List ℕ) → IsOffset a t → IsOffset b t → a ≡ b
one_offset a b t is other = elim ((offset_mark a t is).1) [
  | inl e ↦
      let (n, shift, same) = offset_plus a _ (subst (IsOffset a) e is) in
      let (k, shift-2, same-2) = offset_plus b _ (subst (IsOffset b) e other) in
      same ∙ ap pos (one_shift n k _ shift shift-2) ∙ sym same-2
  | inr (inl e) ↦
      let (n, shift, same) = offset_minus a _ (subst (IsOffset a) e is) in
      let (k, shift-2, same-2) = offset_minus b _ (subst (IsOffset b) e other) in
      same ∙ ap (λ i. neg_ℤ (pos i)) (one_shift n k _ shift shift-2) ∙ sym same-2
  | inr (inr e) ↦ (offset_zero a _ (subst (IsOffset a) e is)).1 ∙ sym (offset_zero b _ (subst (IsOffset b) e other)).1
]

one_fraction : (a b : ℕ) (x y : ℤ) (f g z w : List ℕ) → IsFraction a f → IsOffset x z → IsFraction b g → IsOffset y w → f ++ z ≡ g ++ w → (a ≡ b) × (z ≡ w)
one_fraction a b x y f g z w (inl none) zone (inl none-2) zone-2 same =
    (none.0 ∙ sym none-2.0, sym (ap (λ l. l ++ z) none.1) ∙ same ∙ ap (λ l. l ++ w) none-2.1)
one_fraction a b x y f g z w (inl none) zone (inr (k, n, some, upto, below, value, text)) zone-2 same =
    absurd (offset_point x z _ zone (sym (ap (λ l. l ++ z) none.1) ∙ same ∙ ap (λ l. l ++ w) text))
one_fraction a b x y f g z w (inr (k, n, some, upto, below, value, text)) zone (inl none) zone-2 same =
    absurd (offset_point y w _ zone-2 (sym (ap (λ l. l ++ w) none.1) ∙ sym same ∙ ap (λ l. l ++ z) text))
one_fraction a b x y f g z w (inr (k, n, some, upto, below, value, text)) zone (inr (j, m, some-2, upto-2, below-2, value-2, read)) zone-2 same =
    let whole : last_digits k n ++ z ≡ last_digits j m ++ w = tails (sym (ap (λ l. l ++ z) text) ∙ same ∙ ap (λ l. l ++ w) read) in
    let count : k ≡ j = omega (arith, ap digits_ahead whole, digits_ahead-last_digits k n z, offset_ahead x z zone, digits_ahead-last_digits j m w, offset_ahead y w zone-2) in
    let (number, left) = same_digits j n m z w (rw (← count) below) below-2 (ap (λ i. last_digits i n ++ z) (sym count) ∙ whole) in
    (value ∙ same_thousandths n m k j number count ∙ sym value-2, left)
  where
    same_thousandths : (n m k j : ℕ) → n ≡ m → k ≡ j → n * 1_000 / 10 ^ k ≡ m * 1_000 / 10 ^ j
    same_thousandths n m k j numbers counts = rw (numbers, counts) refl

one_local : (m n : ℕ) (d e : ℤ) (s t f g : ℕ) (x y : ℤ) → IsLocalTime m d s f x → IsLocalTime n e t g y → d ≡ e → s ≡ t → f ≡ g → x ≡ y → m ≡ n
one_local m n d e s t f g x y is other days seconds thousandths offset = omega (arith, signed_arith, is.0, other.0, days, seconds, thousandths, offset)

pub IsDateTime-one : (m n : ℕ) (text : List ℕ) → IsDateTime m text → IsDateTime n text → m ≡ n
IsDateTime-one m n text a b =
    let (days, behind) = one_date a.days b.days a.date b.date (84 ∷ (a.time ++ (a.fraction ++ a.zone))) (84 ∷ (b.time ++ (b.fraction ++ b.zone))) a.is_date b.is_date (sym a.spelled ∙ b.spelled) in
    let (seconds, rest) = one_time a.seconds b.seconds a.time b.time (a.fraction ++ a.zone) (b.fraction ++ b.zone) a.is_time b.is_time (tails behind) in
    let (thousandths, zones) = one_fraction a.thousandths b.thousandths a.offset b.offset a.fraction b.fraction a.zone b.zone a.is_fraction a.is_zone b.is_fraction b.is_zone rest in
    let offset = one_offset a.offset b.offset b.zone (subst (IsOffset a.offset) zones a.is_zone) b.is_zone in
    one_local m n a.days b.days a.seconds b.seconds a.thousandths b.thousandths a.offset b.offset a.moment b.moment days seconds thousandths offset

parts_of_one : (m n : ℕ) → m / 86_400_000 ≡ n / 86_400_000 → m / 3_600_000 % 24 ≡ n / 3_600_000 % 24 → m / 60_000 % 60 ≡ n / 60_000 % 60
    → m / 1_000 % 60 ≡ n / 1_000 % 60 → m % 1_000 ≡ n % 1_000 → m ≡ n
parts_of_one m n days hours minutes seconds thousandths = omega (arith, days, hours, minutes, seconds, thousandths)

pub IsMomentText-one : (m n : ℕ) (text : List ℕ) → IsMomentText m text → IsMomentText n text → m ≡ n
IsMomentText-one m n text a b =
    let whole = sym a.spelled ∙ b.spelled in
    let year = same_digits 4 a.year b.year _ _ (year_below a.year a.month a.day a.civil) (year_below b.year b.month b.day b.civil) whole in
    let month = same_digits 2 a.month b.month _ _ (omega (arith, a.civil.1.1)) (omega (arith, b.civil.1.1)) (tails year.1) in
    let day = same_digits 2 a.day b.day _ _ (day_below a.year a.month a.day a.civil) (day_below b.year b.month b.day b.civil) (tails month.1) in
    let hour = same_digits 2 (m / 3_600_000 % 24) (n / 3_600_000 % 24) _ _ (omega arith) (omega arith) (tails day.1) in
    let minute = same_digits 2 (m / 60_000 % 60) (n / 60_000 % 60) _ _ (omega arith) (omega arith) (tails hour.1) in
    let second = same_digits 2 (m / 1_000 % 60) (n / 1_000 % 60) _ _ (omega arith) (omega arith) (tails minute.1) in
    let thousandth = same_digits 3 (m % 1_000) (n % 1_000) _ _ (omega arith) (omega arith) (tails second.1) in
    let days = sym a.number ∙ same_days a.year a.month a.day b.year b.month b.day year.0 month.0 day.0 ∙ b.number in
    parts_of_one m n (omega (arith, signed_arith, days)) hour.0 minute.0 second.0 thousandth.0
