-- What goes in determines what is answered.
use Rattle.std.proofs.Common.{◌≡◌, ◌≢◌, ◌⊎◌, inl, inr, ℕ, zero, suc, ℤ, pos, negsuc, ◌<◌, ◌≤◌, ◌↔◌, Bool, true, false, IsTrue, List, [], ◌∷◌, ◌++◌, length, drop, take, map, Option, Some, None, int_rem, int_div, length-append, Result, Ok, Err, refl, sym, ap, subst, ◌∙◌, arith}
use Rattle.std.proofs.Math.Seq.{drop-append_seam, take-append_seam}
use Rattle.std.proofs.lemmas.Bool.{cases_Bool, cases_lt, false≢true}
use Rattle.std.specs.Int.{int_pow}
use Rattle.std.specs.Str.Pattern.{LacksTextAt}
use Rattle.farm_text.specs.Document.{Document, null, boolean, whole, text, array, object, items_of, member_at}
use Rattle.farm_text.specs.DateTime.{IsDateTime}
use Rattle.farm_text.specs.Moment.{IsMomentText}
use Rattle.farm_text.proofs.OneMomentLemmas.{IsDateTime-one}
use Rattle.farm_text.proofs.MomentLemmas.{IsMomentText-one}
use Rattle.jsone_values.specs.declared.faults.Fault.{Fault}
use Rattle.jsone_values.specs.declared.faults.Fault.TheVariants.{WrongKind, NotExact, BadSpan}
use Rattle.jsone_values.specs.Builtins.{IsLengthOf}
use Rattle.jsone_values.specs.Lists.{IsAbsolute, IsRead}
use Rattle.jsone_values.specs.Splits.{IsFirstCut, IsSplit, IsPieces}
use Rattle.jsone_values.specs.Numbers.{IsInRange, IsQuotient, IsPower, IsNumberOf, are_digits, behind_minus}
use Rattle.jsone_values.specs.Operators.{IsNumber, IsOfNumbers, IsSum, IsDifference, IsProduct, IsExactQuotient, IsRaised, IsNegated, IsKept, IsTruthOf, IsEquality, HasItem, IsWithin}
use Rattle.jsone_values.specs.Spans.{span_of, shifted, IsTextOf, IsMovedFrom, IsMoved, IsMovedBy, IsFromNow}

-- one result at most is of this kind
abbrev pub IsOne : {A : Type 0} → (A → Type 0) → Type 0
IsOne {A} P = (r q : A) → P r → P q → r ≡ q

pub one_same : {A : Type 0} (x : A) → IsOne (λ r. r ≡ x)
one_same x r q h k = h ∙ sym k

pub one_in_range : (z : ℤ) → IsOne (IsInRange z)
one_in_range z (Ok m) (Ok n) h k = ap Ok (h.1 ∙ sym k.1)
one_in_range z (Ok m) (Err f) h k = absurd (k.0 h.0)
one_in_range z (Err f) (Ok n) h k = absurd (h.0 k.0)
one_in_range z (Err f) (Err g) h k = ap Err (h.1 ∙ sym k.1)

not_both : (n : ℤ) (f : Fault) → (let r : Result ℤ Fault = Ok n in r) ≡ Err f → ⊥
not_both n f e = cc

pub one_number : (P : Result ℤ Fault → Type 0) → IsOne P → IsOne (IsNumber P)
one_number P one (Ok d) (Ok e) (z, h, p) (y, k, q) =
    let same = one (Ok z) (Ok y) p q in
    let numbers : z ≡ y = cc in
    ap Ok (h ∙ ap whole numbers ∙ sym k)
one_number P one (Ok d) (Err f) (z, h, p) k = let wrong = one (Ok z) (Err f) p k in absurd (not_both z f wrong)
one_number P one (Err f) (Ok e) h (y, k, q) = let wrong = one (Ok y) (Err f) q h in absurd (not_both y f wrong)
one_number P one (Err f) (Err g) h k =
    let same = one (Err f) (Err g) h k in
    let faults : f ≡ g = cc in
    ap Err faults

zero_or_not : (z : ℤ) → (z ≡ pos 0) ⊎ (z ≢ pos 0)
zero_or_not (pos zero) = inl refl
zero_or_not (pos (suc n)) = inr (λ e. let same : suc n ≡ 0 = cc in omega arith)
zero_or_not (negsuc n) = inr (λ e. cc)

pub one_quotient : (a b : ℤ) → IsOne (IsQuotient a b)
one_quotient a b r q h k = elim (zero_or_not b) [
  | inl nought ↦ h.by_zero nought ∙ sym (k.by_zero nought)
  | inr some ↦ elim (zero_or_not (int_rem a b)) [
    | inl none ↦ one_in_range (int_div a b) r q (h.exact some none) (k.exact some none)
    | inr rest ↦ h.rest some rest ∙ sym (k.rest some rest)
  ]
]

pub one_power : (base exponent : ℤ) → IsOne (IsPower base exponent)
one_power base (pos e) r q h k = one_in_range (int_pow base e) r q h k
one_power base (negsuc e) r q h k = h ∙ sym k

pub one_number_of : (bs : List ℕ) → IsOne (IsNumberOf bs)
one_number_of bs r q h k = elim (cases_Bool (are_digits bs)) [
  | inl digits ↦ one_in_range _ r q (h.from_zero digits) (k.from_zero digits)
  | inr other ↦ elim (cases_Bool (are_digits (behind_minus bs))) [
    | inl digits ↦ one_in_range _ r q (h.below_zero digits) (k.below_zero digits)
    | inr none ↦ h.no_number other none ∙ sym (k.no_number other none)
  ]
]

pub one_of_numbers : (P : ℤ → ℤ → Result ℤ Fault → Type 0) → ((a b : ℤ) → IsOne (P a b)) → (d e : Document) → IsOne (IsOfNumbers P d e)
one_of_numbers P one (whole a) (whole b) r q h k = one_number (P a b) (one a b) r q h k
one_of_numbers P one _ _ r q h k = h ∙ sym k

pub one_sum : (d e : Document) → IsOne (IsSum d e)
one_sum (whole a) (whole b) r q h k = one_number _ (one_in_range _) r q h k
one_sum (text s) (text t) r q h k = h ∙ sym k
one_sum _ _ r q h k = h ∙ sym k

pub one_negated : (d : Document) → IsOne (IsNegated d)
one_negated (whole z) r q h k = one_number _ (one_in_range _) r q h k
one_negated _ r q h k = h ∙ sym k

pub one_kept : (d : Document) → IsOne (IsKept d)
one_kept (whole z) r q h k = h ∙ sym k
one_kept _ r q h k = h ∙ sym k

same_truth : (P : Type 0) (b c : Bool) → (IsTrue b ↔ P) → (IsTrue c ↔ P) → b ≡ c
same_truth P true true h k = refl
same_truth P true false h k = absurd (false≢true (k.1 (h.0 refl)))
same_truth P false true h k = absurd (false≢true (h.1 (k.0 refl)))
same_truth P false false h k = refl

pub one_truth : (P : Type 0) → IsOne (IsTruthOf P)
one_truth P r q (b, is, e) (c, also, f) = e ∙ ap (λ x. Ok (boolean x)) (same_truth P b c is also) ∙ sym f

pub one_within : (d e : Document) → IsOne (IsWithin d e)
one_within d (array ds) r q h k = one_truth _ r q h k
one_within (text s) (text t) r q h k = one_truth _ r q h k
one_within (text s) (object ms) r q h k = h ∙ sym k
one_within _ _ r q h k = h ∙ sym k

pub one_length : (d : Document) → IsOne (IsLengthOf d)
one_length (text bs) r q h k = one_in_range _ r q h k
one_length (array ds) r q h k = one_in_range _ r q h k
one_length _ r q h k = h ∙ sym k

pub one_absolute : (d : Document) → IsOne (IsAbsolute d)
one_absolute (whole z) r q h k = one_number _ (one_in_range _) r q h k
one_absolute _ r q h k = h ∙ sym k

pub one_read : (d : Document) → IsOne (IsRead d)
one_read (text bs) r q h k = one_number _ (one_number_of bs) r q h k
one_read _ r q h k = h ∙ sym k

-- a separator stands behind the piece
behind : (sep bs piece rest : List ℕ) → bs ≡ piece ++ (sep ++ rest) → drop (length piece) bs ≡ sep ++ rest
behind sep bs piece rest e = ap (drop (length piece)) e ∙ drop-append_seam piece (sep ++ rest)

piece_within : (sep bs piece rest : List ℕ) → bs ≡ piece ++ (sep ++ rest) → length piece ≤ length bs
piece_within sep bs piece rest e = omega (arith, ap length e, length-append piece (sep ++ rest))

same_cut : (sep bs p q x y : List ℕ) → IsFirstCut sep bs p x → IsFirstCut sep bs q y → (p ≡ q) × (x ≡ y)
same_cut sep bs p q x y h k = elim (cases_lt (length p) (length q)) [
  | inl less ↦ absurd (k.first (length p) less x (behind sep bs p x h.spelled))
  | inr more ↦ elim (cases_lt (length q) (length p)) [
    | inl less ↦ absurd (h.first (length q) less y (behind sep bs q y k.spelled))
    | inr also ↦
        let lengths : length p ≡ length q = omega arith in
        let pieces : p ≡ q = sym (take-append_seam p (sep ++ x)) ∙ ap (take (length p)) (sym h.spelled ∙ k.spelled) ∙ ap (λ n. take n (q ++ (sep ++ y))) lengths ∙ take-append_seam q (sep ++ y) in
        let ends : sep ++ x ≡ sep ++ y = sym (behind sep bs p x h.spelled) ∙ ap (λ n. drop n bs) lengths ∙ behind sep bs q y k.spelled in
        (pieces, sym (drop-append_seam sep x) ∙ ap (drop (length sep)) ends ∙ drop-append_seam sep y)
  ]
]

pub one_split : (sep bs : List ℕ) (ps qs : List (List ℕ)) → IsSplit sep bs ps → IsSplit sep bs qs → ps ≡ qs
one_split sep bs [] qs h k = absurd h
one_split sep bs (p ∷ ps) [] h k = absurd k
one_split sep bs (p ∷ []) (q ∷ []) h k = ap (λ x. x ∷ []) (sym h.0 ∙ k.0)
one_split sep bs (p ∷ []) (q ∷ x ∷ qs) h (rest, cut, more) = absurd (h.1 (length q) (piece_within sep bs q rest cut.spelled) rest (behind sep bs q rest cut.spelled))
one_split sep bs (p ∷ x ∷ ps) (q ∷ []) (rest, cut, more) k = absurd (k.1 (length p) (piece_within sep bs p rest cut.spelled) rest (behind sep bs p rest cut.spelled))
one_split sep bs (p ∷ x ∷ ps) (q ∷ y ∷ qs) (rest, cut, more) (left, part, other) =
    let same = same_cut sep bs p q rest left cut part in
    let pieces = one_split sep rest (x ∷ ps) (y ∷ qs) more (subst (λ l. IsSplit sep l (y ∷ qs)) (sym same.1) other) in
    ap (λ l. l ∷ x ∷ ps) same.0 ∙ ap (λ l. q ∷ l) pieces

pub one_pieces : (d e : Document) → IsOne (IsPieces d e)
one_pieces (text bs) (text []) r q h k = h ∙ sym k
one_pieces (text bs) (text (c ∷ sep)) r q (ps, h, e) (qs, k, f) = e ∙ ap (λ l. Ok (array (items_of (map text l)))) (one_split (c ∷ sep) bs ps qs h k) ∙ sym f
one_pieces _ _ r q h k = h ∙ sym k

one_text : (z : ℤ) → IsOne (IsTextOf z)
one_text z (Ok d) (Ok e) (m, bs, h, upto, is, t) (n, cs, k, within, also, u) =
    let numbers = sym h ∙ k in
    let same : m ≡ n = cc in
    ap Ok (t ∙ ap text (IsMomentText-one m bs cs is (subst (λ i. IsMomentText i cs) (sym same) also)) ∙ sym u)
one_text z (Ok d) (Err f) (m, bs, h, upto, is, t) k = absurd (k.0 m upto h)
one_text z (Err f) (Ok e) h (n, cs, k, within, also, u) = absurd (h.0 n within k)
one_text z (Err f) (Err g) h k = ap Err (h.1 ∙ sym k.1)

pub one_moved_from : (span : Bool × ℕ) (from : List ℕ) → IsOne (IsMovedFrom span from)
one_moved_from span from r q (inl (m, is, h)) (inl (n, also, k)) = one_text (shifted span m) r q h (subst (λ i. IsTextOf (shifted span i) q) (sym (IsDateTime-one m n from is also)) k)
one_moved_from span from r q (inl (m, is, h)) (inr (none, k)) = absurd (none m is)
one_moved_from span from r q (inr (none, h)) (inl (n, also, k)) = absurd (none n also)
one_moved_from span from r q (inr (none, h)) (inr (nothing, k)) = h ∙ sym k

one_moved : (span : Bool × ℕ) (from : Option Document) → IsOne (IsMoved span from)
one_moved span None r q h k = h ∙ sym k
one_moved span (Some (text from)) r q h k = one_moved_from span from r q h k
one_moved span (Some _) r q h k = h ∙ sym k

one_by_span : (o : Option (Bool × ℕ)) (from : Option Document) → IsOne (IsMovedBy o from)
one_by_span None from r q h k = h ∙ sym k
one_by_span (Some span) from r q h k = one_moved span from r q h k

pub one_from_now : (d : Document) (from : Option Document) → IsOne (IsFromNow d from)
one_from_now (text bs) from r q h k = one_by_span (span_of bs) from r q h k
one_from_now _ from r q h k = h ∙ sym k
