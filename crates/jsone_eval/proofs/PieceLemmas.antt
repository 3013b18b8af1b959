-- What stands in the text of an expression.
use Rattle.std.proofs.Common.{◌≡◌, ◌==◌, ℕ, suc, ◌+◌, ◌-◌, ◌*◌, ◌≤◌, min, Bool, true, false, if◌then◌else◌, List, [], ◌∷◌, ◌++◌, ◌&&◌, nat_eq, length, take, drop, inl, inr, Ok, Err, refl, sym, ap, subst, ◌∙◌, arith, length-drop, take-append-drop}
use Rattle.std.specs.Cmp.Lexicographic.{pointwise}
use Rattle.std.specs.List.{list_all, prefix_len}
use Rattle.std.specs.Str.{IsUtf8, is_utf8}
use Rattle.std.proofs.lemmas.Bool.{cases_Bool, cases_lt, false≢true}
use Rattle.std.proofs.lemmas.Bool.Decides.{eqb_tells}
use Rattle.std.proofs.lemmas.List.{drop_all, take_all}
use Rattle.std.proofs.lemmas.Slice.Eq.{bytes_eq-Decides}
use Rattle.std.proofs.lemmas.Str.{IsUtf8-from_is_utf8, is_utf8-from_IsUtf8}
use Rattle.jsone_values.specs.declared.faults.Fault.TheVariants.{Syntax}
use Rattle.jsone_values.specs.Numbers.{digits_from}
use Rattle.jsone_expr.specs.declared.tokens.Span.{Span}
use Rattle.jsone_eval.specs.Values.{bytes_at, text_at}

take_none : (m n : ℕ) (xs : List ℕ) → length xs ≤ 0 → take m xs ≡ take n xs
take_none m n xs none = take_all m xs (omega (arith, none)) ∙ sym (take_all n xs (omega (arith, none)))

-- cut to the ends it is the same part
pub cut_within : (xs : List ℕ) (from to : ℕ) → take (min to (length xs) - min from (min to (length xs))) (drop (min from (min to (length xs))) xs) ≡ take (to - from) (drop from xs)
cut_within xs from to = elim (cases_lt (length xs) to) [
  | inl past ↦
      let end : min to (length xs) ≡ length xs = omega arith in
      rw end (elim (cases_lt (length xs) from) [
        | inl none ↦
            let start : min from (length xs) ≡ length xs = omega arith in
            rw (start, drop_all (length xs) xs (omega arith), drop_all from xs (omega arith)) (take_none _ _ [] (omega arith))
        | inr some ↦
            let start : min from (length xs) ≡ from = omega arith in
            rw start (take_all (length xs - from) (drop from xs) (omega (arith, length-drop from xs)) ∙ sym (take_all (to - from) (drop from xs) (omega (arith, length-drop from xs))))
      ])
  | inr within ↦
      let end : min to (length xs) ≡ to = omega arith in
      rw end (elim (cases_lt to from) [
        | inl crossed ↦
            let start : min from to ≡ to = omega arith in
            let none : to - to ≡ 0 = omega arith in
            let also : to - from ≡ 0 = omega arith in
            rw (start, none, also) refl
        | inr ordered ↦
            let start : min from to ≡ from = omega arith in
            rw start refl
      ])
]

-- the same where the ends are computed one after the other
pub cut_is : (xs : List ℕ) (from to a b : ℕ) → a ≡ min to (length xs) → b ≡ min from a → take (a - b) (drop b xs) ≡ take (to - from) (drop from xs)
cut_is xs from to a b e f =
    ap (λ z. take (a - z) (drop z xs)) (f ∙ ap (min from) e)
    ∙ ap (λ z. take (z - min from (min to (length xs))) (drop (min from (min to (length xs))) xs)) e
    ∙ cut_within xs from to

pub text_found : (source bs found : List ℕ) (place : Span) → bs ≡ bytes_at source place → found ≡ bs → IsUtf8 bs → text_at source place ≡ Ok found
text_found source bs found place e f utf8 =
    let is : is_utf8 (bytes_at source place) ≡ true = is_utf8-from_IsUtf8 _ (subst IsUtf8 e utf8) in
    rw is (ap Ok (sym e ∙ sym f))

pub no_text : (source bs : List ℕ) (place : Span) → bs ≡ bytes_at source place → (IsUtf8 bs → ⊥) → text_at source place ≡ Err Syntax
no_text source bs place e other = elim (cases_Bool (is_utf8 (bytes_at source place))) [
  | inl is ↦ absurd (other (subst IsUtf8 (sym e) (IsUtf8-from_is_utf8 _ is)))
  | inr none ↦ rw none refl
]

-- zeros that lead a number's digits
zero_first : (d : ℕ) (ds : List ℕ) → d ≡ 48 → digits_from 0 (d ∷ ds) ≡ digits_from 0 ds
zero_first d ds e = ap (λ (n : ℕ). digits_from (0 * 10 + (n - 48)) ds) e

one_more : (k : ℕ) → 1 + k ≡ suc k
one_more k = omega arith

pub zeros_lead : (ds : List ℕ) → digits_from 0 (drop (prefix_len (λ d. d == 48) ds) ds) ≡ digits_from 0 ds
zeros_lead [] = refl
zeros_lead (d ∷ ds) = elim (eqb_tells d 48) [
  | inl (passes, is) ↦ ap (λ (b : Bool). digits_from 0 (drop (if b then 1 + prefix_len (λ x. x == 48) ds else 0) (d ∷ ds))) passes ∙ ap (λ (k : ℕ). digits_from 0 (drop k (d ∷ ds))) (one_more (prefix_len (λ x. x == 48) ds)) ∙ zeros_lead ds ∙ sym (zero_first d ds is)
  | inr (fails, isnt) ↦ ap (λ (b : Bool). digits_from 0 (drop (if b then 1 + prefix_len (λ x. x == 48) ds else 0) (d ∷ ds))) fails
]

zeros_by : (b : Bool) (k n : ℕ) → k ≤ n → (if b then 1 + k else 0) ≤ 1 + n
zeros_by true k n upto = omega (arith, upto)
zeros_by false k n upto = omega arith

pub zeros_within : (ds : List ℕ) → prefix_len (λ d. d == 48) ds ≤ length ds
zeros_within [] = omega arith
zeros_within (d ∷ ds) = let all = zeros_by (d == 48) (prefix_len (λ x. x == 48) ds) (length ds) (zeros_within ds) in omega (arith, all)

-- a run of zeros that leads a number's digits
zeros_run : (zs ds : List ℕ) → list_all (λ d. d == 48) zs ≡ true → digits_from 0 (zs ++ ds) ≡ digits_from 0 ds
zeros_run [] ds all = refl
zeros_run (z ∷ zs) ds all = elim (eqb_tells z 48) [
  | inl (passes, is) ↦ zero_first z (zs ++ ds) is ∙ zeros_run zs ds (sym (ap (λ (b : Bool). b && list_all (λ d. d == 48) zs) passes) ∙ all)
  | inr (fails, isnt) ↦ absurd (false≢true (sym (ap (λ (b : Bool). b && list_all (λ d. d == 48) zs) fails) ∙ all))
]

pub runs_off : (zs rest behind : List ℕ) → list_all (λ d. d == 48) zs ≡ true → pointwise nat_eq (take (length zs) rest) zs ≡ true → behind ≡ drop (length zs) rest → digits_from 0 behind ≡ digits_from 0 rest
runs_off zs rest behind all same is =
    let front : take (length zs) rest ≡ zs = (bytes_eq-Decides (take (length zs) rest) zs).0 same in
    let whole : zs ++ drop (length zs) rest ≡ rest = ap (λ (l : List ℕ). l ++ drop (length zs) rest) (sym front) ∙ take-append-drop (length zs) rest in
    ap (digits_from 0) is ∙ sym (zeros_run zs (drop (length zs) rest) all) ∙ ap (digits_from 0) whole
