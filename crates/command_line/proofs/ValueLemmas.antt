-- Tests of values, and the facts that they decide.
use Rattle.std.proofs.Common.{◌≡◌, ◌⊎◌, ◌↔◌, ℕ, ◌<◌, ◌≤◌, ◌^◌, zero, suc, Bool, true, false, refl, sym, subst, arith, inl, inr, List, [], ◌∷◌, length, get_or, codes, Result, Err}
use Rattle.std.specs.Prelude.{◌==◌, ◌||◌, IsTrue, All}
use Rattle.std.specs.List.{list_all}
use Rattle.std.specs.Char.{IsAsciiAlphanumeric}
use Rattle.std.specs.Str.Parse.{AllDigits, IsNumeral, ParsesUnsigned, digits_value, without_leading_plus}
use Rattle.std.proofs.lemmas.Bool.{and_from, and_parts, eq-eqb, eqb-true, false_from_ne_true, false≢true, le-leb, leb-true, ne_eqb, or_cases, or_left, or_right}
use Rattle.hawk_auth.specs.Clients.{HasForm, IsClientId, IsIdByte, IsToken, IsTokenByte}
use Rattle.command_line.specs.Values.{has_form, is_alphanumeric, is_between, is_digit, is_id_byte, is_letter, is_number, is_one_of, is_token_byte}

-- two tests of one fact
same_test : (b c : Bool) (P : Type 0) → (b ≡ true → P) → (P → b ≡ true) → (c ≡ true → P) → (P → c ≡ true) → b ≡ c
same_test true c P bp pb cp pc = sym (pc (bp refl))
same_test false true P bp pb cp pc = pb (cp refl)
same_test false false P bp pb cp pc = refl

pub between_to : (least most n : ℕ) → is_between least most n ≡ true → (least ≤ n) × (n ≤ most)
between_to least most n e = let p = and_parts _ _ e in (leb-true least n p.0, leb-true n most p.1)

between_from : (least most n : ℕ) → least ≤ n → n ≤ most → is_between least most n ≡ true
between_from least most n low high = and_from _ _ (le-leb least n low) (le-leb n most high)

module _ (test : ℕ → Bool) (Class : ℕ → Type 0) (to : (b : ℕ) → test b ≡ true → Class b) (from : (b : ℕ) → Class b → test b ≡ true) where
  at_first : (b : ℕ) (text : List ℕ) → Class b → All Class text → (k d : ℕ) → k < length (b ∷ text) → Class (get_or (b ∷ text) k d)
  at_first b text first rest zero d lt = first
  at_first b text first rest (suc k) d lt = rest k d (omega arith)

  all_to : (text : List ℕ) → list_all test text ≡ true → All Class text
  all_to [] e = λ k d lt. absurd (omega arith)
  all_to (b ∷ text) e = let p = and_parts _ _ e in at_first b text (to b p.0) (all_to text p.1)

  all_from : (text : List ℕ) → All Class text → list_all test text ≡ true
  all_from [] all = refl
  all_from (b ∷ text) all = and_from _ _ (from b (all 0 b (omega arith))) (all_from text (λ k d lt. all (suc k) d (omega arith)))

  form_to : (least most : ℕ) (text : List ℕ) → has_form least most test text ≡ true → HasForm least most Class text
  form_to least most text e =
      let p = and_parts _ _ e in
      let long = between_to least most (length text) p.0 in
      record { enough = long.0; short = long.1; bytes = all_to text p.1 }

  form_from : (least most : ℕ) (text : List ℕ) → HasForm least most Class text → has_form least most test text ≡ true
  form_from least most text form = and_from _ _ (between_from least most (length text) form.enough form.short) (all_from text form.bytes)

-- one of these bytes
abbrev IsOneOf : List ℕ → ℕ → Type 0
IsOneOf [] b = ⊥
IsOneOf (x ∷ []) b = b ≡ x
IsOneOf (x ∷ y ∷ more) b = (b ≡ x) ⊎ IsOneOf (y ∷ more) b

one_to : (ones : List ℕ) (b : ℕ) → is_one_of ones b ≡ true → IsOneOf ones b
one_to [] b e = false≢true e
one_to (x ∷ []) b e = elim (or_cases (x == b) false e) [ inl same ↦ sym (eqb-true x b same) | inr other ↦ absurd (false≢true other) ]
one_to (x ∷ y ∷ more) b e = elim (or_cases (x == b) _ e) [ inl same ↦ inl (sym (eqb-true x b same)) | inr other ↦ inr (one_to (y ∷ more) b other) ]

one_from : (ones : List ℕ) (b : ℕ) → IsOneOf ones b → is_one_of ones b ≡ true
one_from [] b one = absurd one
one_from (x ∷ []) b one = or_left (x == b) _ (eq-eqb x b (sym one))
one_from (x ∷ y ∷ more) b (inl same) = or_left (x == b) _ (eq-eqb x b (sym same))
one_from (x ∷ y ∷ more) b (inr other) = or_right (x == b) _ (one_from (y ∷ more) b other)

alphanumeric_to : (b : ℕ) → is_alphanumeric b ≡ true → IsAsciiAlphanumeric b
alphanumeric_to b e = elim (or_cases (is_letter b) (is_digit b) e) [
  | inl letter ↦ elim (or_cases (is_between 65 90 b) (is_between 97 122 b) letter) [
    | inl upper ↦ inl (inr (between_to 65 90 b upper))
    | inr lower ↦ inr (between_to 97 122 b lower)
  ]
  | inr digit ↦ inl (inl (between_to 48 57 b digit))
]

alphanumeric_from : (b : ℕ) → IsAsciiAlphanumeric b → is_alphanumeric b ≡ true
alphanumeric_from b (inl (inl digit)) = or_right (is_letter b) _ (between_from 48 57 b digit.0 digit.1)
alphanumeric_from b (inl (inr upper)) = or_left (is_letter b) _ (or_left (is_between 65 90 b) _ (between_from 65 90 b upper.0 upper.1))
alphanumeric_from b (inr lower) = or_left (is_letter b) _ (or_right (is_between 65 90 b) _ (between_from 97 122 b lower.0 lower.1))

module _ (ones : List ℕ) where
  class_to : (b : ℕ) → (is_alphanumeric b || is_one_of ones b) ≡ true → IsAsciiAlphanumeric b ⊎ IsOneOf ones b
  class_to b e = elim (or_cases (is_alphanumeric b) (is_one_of ones b) e) [ inl letter ↦ inl (alphanumeric_to b letter) | inr one ↦ inr (one_to ones b one) ]

  class_from : (b : ℕ) → IsAsciiAlphanumeric b ⊎ IsOneOf ones b → (is_alphanumeric b || is_one_of ones b) ≡ true
  class_from b (inl letter) = or_left (is_alphanumeric b) _ (alphanumeric_from b letter)
  class_from b (inr one) = or_right (is_alphanumeric b) _ (one_from ones b one)

-- a test of a client's id, and one of its token
pub id_test : (b : Bool) (text : List ℕ) → (IsTrue b ↔ IsClientId text) → b ≡ has_form 1 128 is_id_byte text
id_test b text is =
    same_test b (has_form 1 128 is_id_byte text) (IsClientId text) is.0 is.1
    (form_to is_id_byte IsIdByte (class_to (codes "!@/:.+|_-")) (class_from (codes "!@/:.+|_-")) 1 128 text)
    (form_from is_id_byte IsIdByte (class_to (codes "!@/:.+|_-")) (class_from (codes "!@/:.+|_-")) 1 128 text)

pub token_test : (b : Bool) (text : List ℕ) → (IsTrue b ↔ IsToken text) → b ≡ has_form 22 66 is_token_byte text
token_test b text is =
    same_test b (has_form 22 66 is_token_byte text) (IsToken text) is.0 is.1
    (form_to is_token_byte IsTokenByte (class_to (codes "_-")) (class_from (codes "_-")) 22 66 text)
    (form_from is_token_byte IsTokenByte (class_to (codes "_-")) (class_from (codes "_-")) 22 66 text)

-- ---- numbers

are_digits : (text : List ℕ) → list_all is_digit text ≡ true → AllDigits 10 text
are_digits [] e = tt
are_digits (b ∷ text) e =
    let p = and_parts _ _ e in
    let digit = between_to 48 57 b p.0 in
    (grind arith, are_digits text p.1)

no_plus : (text : List ℕ) → list_all is_digit text ≡ true → without_leading_plus text ≡ text
no_plus [] e = refl
no_plus (b ∷ text) e =
    let digit = between_to 48 57 b (and_parts _ _ e).0 in
    let other : (b == 43) ≡ false = ne_eqb b 43 (λ same. omega arith) in
    simp other refl

-- digits of which no number of so many bits can be read are none within the bounds
pub no_number : {E : Type 0} (bits least most : ℕ) → most < 2 ^ bits → (text : List ℕ) (r : Result ℕ E) (e : E) → r ≡ Err e → is_between 1 19 (length text) ≡ true
    → list_all is_digit text ≡ true → ParsesUnsigned bits 10 text r → is_number least most text ≡ false
no_number {E} bits least most fits text r e failed long digits parses =
    let refused = subst (λ (x : Result ℕ E). ParsesUnsigned bits 10 text x) failed parses in
    false_from_ne_true (is_number least most text)
    (λ is. let value = between_to least most (digits_value 10 text) (and_parts (has_form 1 19 is_digit text) (is_between least most (digits_value 10 text)) is).1 in
    let size = between_to 1 19 (length text) long in
    let numeral : IsNumeral 10 text = (omega (arith, size), are_digits text digits) in
    let small : digits_value 10 text < 2 ^ bits = omega (arith, value.1, fits) in
    subst (λ (t : List ℕ). IsNumeral 10 t × (digits_value 10 t < 2 ^ bits) → ⊥) (no_plus text digits) refused (numeral, small))
