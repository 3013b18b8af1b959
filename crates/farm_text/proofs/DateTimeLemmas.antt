-- The parts of a date-time: what stands at their fronts, and that a text has them in one way.
use Rattle.std.proofs.Common.{◌≡◌, ℕ, zero, suc, ◌+◌, ◌-◌, ◌/◌, ◌%◌, ◌^◌, ◌<◌, ◌≤◌, ◌⊎◌, ◌≢◌, List, [], ◌∷◌, ◌++◌, get_or, drop, Option, Some, None, IfSome, ℤ, pos, neg_ℤ, le-leb, slice_index, refl, sym, ap, ◌∙◌, arith, inl, inr, append_assoc}
use Rattle.std.proofs.Math.Nat.{pow-suc, pow-le-pow_right}
use Rattle.std.proofs.lemmas.Bool.{cases_lt}
use Rattle.std.proofs.lemmas.Bool.Decides.{nat_tests}
use Rattle.std.proofs.Common.{to_z, of_z, to_z-of_z}
use Rattle.std.specs.Int.{w32}
use Rattle.jiff_core.specs.Calendar.{IsBetween}
use Rattle.jiff_core.proofs.SignedLemmas.{signed_arith, fits_between}
use Rattle.farm_text.specs.DateTime.{IsDateTime, IsHoursMinutes, IsOffset}
use Rattle.farm_text.specs.Digits.{digits_ahead}
use Rattle.farm_text.specs.Moment.{IsMomentText, last_digits}

pub heads : {x y : ℕ} {xs ys : List ℕ} → x ∷ xs ≡ y ∷ ys → x ≡ y
heads {x} e = ap (λ l. get_or l 0 x) e

pub tails : {x y : ℕ} {xs ys : List ℕ} → x ∷ xs ≡ y ∷ ys → xs ≡ ys
tails e = ap (drop 1) e

pub offset_plus : (minutes : ℤ) (shift : List ℕ) → IsOffset minutes (43 ∷ shift) → (n : ℕ) × IsHoursMinutes n shift × (minutes ≡ pos n)
offset_plus minutes shift (inl z) = absurd (omega (arith, heads z.1))
offset_plus minutes shift (inr (n, s, hm, inl e)) = (n, rw (tails e.1) hm, e.0)
offset_plus minutes shift (inr (n, s, hm, inr e)) = absurd (omega (arith, heads e.1))

pub offset_minus : (minutes : ℤ) (shift : List ℕ) → IsOffset minutes (45 ∷ shift) → (n : ℕ) × IsHoursMinutes n shift × (minutes ≡ neg_ℤ (pos n))
offset_minus minutes shift (inl z) = absurd (omega (arith, heads z.1))
offset_minus minutes shift (inr (n, s, hm, inl e)) = absurd (omega (arith, heads e.1))
offset_minus minutes shift (inr (n, s, hm, inr e)) = (n, rw (tails e.1) hm, e.0)

pub offset_zero : (minutes : ℤ) (rest : List ℕ) → IsOffset minutes (90 ∷ rest) → (rest ≡ []) × (minutes ≡ pos 0)
offset_zero minutes rest (inl z) = (tails z.1, z.0)
offset_zero minutes rest (inr (n, s, hm, inl e)) = absurd (omega (arith, heads e.1))
offset_zero minutes rest (inr (n, s, hm, inr e)) = absurd (omega (arith, heads e.1))

-- an offset begins with one of three marks
pub offset_mark : (minutes : ℤ) (text : List ℕ) → IsOffset minutes text → (rest : List ℕ) × ((text ≡ 43 ∷ rest) ⊎ ((text ≡ 45 ∷ rest) ⊎ (text ≡ 90 ∷ rest)))
offset_mark minutes text (inl z) = ([], inr (inr z.1))
offset_mark minutes text (inr (n, s, hm, inl e)) = (s, inl e.1)
offset_mark minutes text (inr (n, s, hm, inr e)) = (s, inr (inl e.1))

no_digits : (text rest : List ℕ) (mark : ℕ) → digits_ahead (mark ∷ rest) ≡ 0 → text ≡ mark ∷ rest → digits_ahead text ≡ 0
no_digits text rest mark none e = ap digits_ahead e ∙ none

-- and so with no digit and no point
pub offset_ahead : (minutes : ℤ) (text : List ℕ) → IsOffset minutes text → digits_ahead text ≡ 0
offset_ahead minutes text is = elim ((offset_mark minutes text is).1) [
  | inl e ↦ no_digits text _ 43 refl e
  | inr (inl e) ↦ no_digits text _ 45 refl e
  | inr (inr e) ↦ no_digits text _ 90 refl e
]

pub offset_point : (minutes : ℤ) (text rest : List ℕ) → IsOffset minutes text → text ≡ 46 ∷ rest → ⊥
offset_point minutes text rest is point = elim ((offset_mark minutes text is).1) [
  | inl e ↦ omega (arith, heads (sym point ∙ e))
  | inr (inl e) ↦ omega (arith, heads (sym point ∙ e))
  | inr (inr e) ↦ omega (arith, heads (sym point ∙ e))
]

pub digit_ahead : (d : ℕ) (rest : List ℕ) → d < 10 → digits_ahead ((48 + d) ∷ rest) ≡ suc (digits_ahead rest)
digit_ahead d rest lt = rw (le-leb 48 (48 + d) (omega arith), le-leb (48 + d) 57 (omega arith))

pub digits_ahead-last_digits : (width n : ℕ) (rest : List ℕ) → digits_ahead (last_digits width n ++ rest) ≡ width + digits_ahead rest
digits_ahead-last_digits zero n rest = omega arith
digits_ahead-last_digits (suc width) n rest =
    ap digits_ahead (append_assoc (last_digits width (n / 10)) ((48 + n % 10) ∷ []) rest) ∙ digits_ahead-last_digits width (n / 10) ((48 + n % 10) ∷ rest)
    ∙ omega (arith, digit_ahead (n % 10) rest (omega arith))

-- so many digits are of one number
pub same_digits : (width a b : ℕ) (r s : List ℕ) → a < 10 ^ width → b < 10 ^ width → last_digits width a ++ r ≡ last_digits width b ++ s → (a ≡ b) × (r ≡ s)
same_digits zero a b r s below under e = (omega arith, e)
same_digits (suc width) a b r s below under e =
    let more = pow-suc 10 width in
    let whole = sym (append_assoc (last_digits width (a / 10)) ((48 + a % 10) ∷ []) r) ∙ e ∙ append_assoc (last_digits width (b / 10)) ((48 + b % 10) ∷ []) s in
    let (front, back) = same_digits width (a / 10) (b / 10) ((48 + a % 10) ∷ r) ((48 + b % 10) ∷ s) (omega (arith, more)) (omega (arith, more)) whole in
    (omega (arith, front, heads back), tails back)

no_digit : (c : ℕ) (cs : List ℕ) → ((d : ℕ) → d < 10 → c ≡ 48 + d → ⊥) → digits_ahead (c ∷ cs) ≡ 0
no_digit c cs none = elim (cases_lt c 48) [
  | inl below ↦ grind (arith, nat_tests)
  | inr from ↦ elim (cases_lt 57 c) [
    | inl above ↦ grind (arith, nat_tests)
    | inr upto ↦ absurd (none (c - 48) (omega arith) (omega arith))
  ]
]

-- what begins with no digit
pub no_digit_ahead : (text : List ℕ) → ((d : ℕ) → d < 10 → slice_index text 0 ≡ 48 + d → ⊥) → digits_ahead text ≡ 0
no_digit_ahead [] none = refl
no_digit_ahead (c ∷ cs) none = no_digit c cs none

-- ten to the power of at most 9, where it is the ninth
pub nine_digits : (k : ℕ) → k ≤ 9 → 10 ^ k ≡ 1_000_000_000 → k ≡ 9
nine_digits k upto is = elim (cases_lt k 9) [
  | inl below ↦ absurd (omega (arith, is, pow-le-pow_right {n = 10} (omega arith) {i = k} {j = 8} (omega arith)))
  | inr from ↦ omega arith
]

-- one that is not the ninth leaves room for another digit
pub one_digit_more : (k scale : ℕ) → k ≤ 9 → scale ≡ 10 ^ k → scale ≢ 1_000_000_000 → suc k ≤ 9
one_digit_more k scale upto is other = elim (cases_lt k 9) [
  | inl below ↦ omega arith
  | inr from ↦ let nine : k ≡ 9 = omega arith in absurd (other (is ∙ ap (λ n. 10 ^ n) nine))
]

-- ten to the power of a count is 1 where that is 0
pub some_digit : (k scale : ℕ) → scale ≡ 10 ^ k → ((scale ≡ 1) × (k ≡ 0)) ⊎ ((1 ≤ k) × (scale ≢ 1))
some_digit zero scale is = inl (is, refl)
some_digit (suc k) scale is = inr (omega arith, λ one. absurd (omega (arith, one, is, pow-suc 10 k, pow-le-pow_right {n = 10} (omega arith) {i = 0} {j = k} (omega arith))))

pub if_some : {A : Type 0} {P Q : A → Type 0} (o : Option A) → ((a : A) → P a → Q a) → IfSome o P → IfSome o Q
if_some None weaker h = tt
if_some (Some a) weaker h = weaker a h

-- a number that fits comes back from its bits as it was
pub days_back : (z : ℤ) → IsBetween (neg_ℤ (pos 4_371_587)) (pos 2_932_896) z → to_z w32 (of_z w32 z) ≡ z
days_back z h = to_z-of_z (fits_between w32 z (omega (arith, signed_arith, h.0, h.1), omega (arith, signed_arith, h.0, h.1)))

pub minutes_back : (z : ℤ) → IsBetween (neg_ℤ (pos 1_440)) (pos 1_440) z → to_z w32 (of_z w32 z) ≡ z
minutes_back z h = to_z-of_z (fits_between w32 z (omega (arith, signed_arith, h.0, h.1), omega (arith, signed_arith, h.0, h.1)))

-- what is written of a moment is a date-time of it
pub IsDateTime-written : (millis : ℕ) (text : List ℕ) → millis ≤ 253_370_764_799_999 → IsMomentText millis text → IsDateTime millis text
IsDateTime-written millis text told w = record {
  days = pos (millis / 86_400_000);
  seconds = millis / 1_000 % 86_400;
  thousandths = millis % 1_000;
  offset = pos 0;
  date = last_digits 4 w.year ++ 45 ∷ (last_digits 2 w.month ++ 45 ∷ last_digits 2 w.day);
  time = last_digits 2 (millis / 3_600_000 % 24) ++ 58 ∷ (last_digits 2 (millis / 60_000 % 60) ++ 58 ∷ last_digits 2 (millis / 1_000 % 60));
  fraction = 46 ∷ last_digits 3 (millis % 1_000);
  zone = 90 ∷ [];
  is_date = (w.year, w.month, w.day, w.civil, sym w.number, refl);
  is_time = (millis / 3_600_000 % 24, millis / 60_000 % 60, millis / 1_000 % 60, omega arith, omega arith, omega arith, omega arith, refl);
  is_fraction = inr (3, millis % 1_000, omega arith, omega arith, omega arith, omega arith, refl);
  is_zone = inl (refl, refl);
  spelled = w.spelled;
  moment = (omega (arith, signed_arith), told);
}
