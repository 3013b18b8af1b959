-- Operators and functions have a result for each value.
use Rattle.std.proofs.Common.{◌≡◌, ◌⊎◌, inl, inr, ℕ, zero, suc, ℤ, pos, negsuc, ◌<◌, ◌≤◌, Bool, true, false, not, ◌&&◌, List, [], ◌∷◌, ◌++◌, length, map, Option, Some, None, if◌then◌else◌, ◌==◌, int_rem, int_div, neg_ℤ, FitsSigned, length-append, Result, Ok, Err, refl, sym, ap, subst, ◌∙◌, arith}
use Rattle.std.proofs.lemmas.Bool.{cases_Bool, false≢true, eqb-true, and_right}
use Rattle.std.specs.Int.{w64, int_pow}
use Rattle.std.specs.Str.Pattern.{LacksTextAt}
use Rattle.farm_text.specs.Document.{Document, boolean, whole, text, array, object, items_of}
use Rattle.farm_text.specs.DateTime.{IsDateTime}
use Rattle.jsone_values.specs.declared.faults.Fault.{Fault}
use Rattle.jsone_values.specs.declared.faults.Fault.TheVariants.{WrongKind, OutOfRange, NotExact}
use Rattle.jsone_values.specs.Builtins.{IsLengthOf}
use Rattle.jsone_values.specs.Lists.{IsAbsolute, IsRead}
use Rattle.jsone_values.specs.Splits.{IsFirstCut, IsSplit, IsPieces}
use Rattle.jsone_values.specs.Numbers.{IsInRange, IsQuotient, IsPower, IsNumberOf, are_digits, behind_minus, digits_from}
use Rattle.jsone_values.specs.Operators.{IsNumber, IsOfNumbers, IsSum, IsNegated, IsKept, IsTruthOf, IsWithin}
use Rattle.jsone_values.specs.Spans.{span_of, shifted, IsTextOf, IsMovedFrom, IsMoved, IsMovedBy, IsFromNow}
use Rattle.jsone_eval.proofs.Existence.{Exists, here, some_same, follow, split}
use Rattle.jsone_eval.proofs.SomeMoment.{moment_text}

-- ---- numbers

pub some_in_range : (z : ℤ) → Exists (IsInRange z)
some_in_range z = split {A = FitsSigned w64 z} (λ fits. here (IsInRange z) (Ok z) (fits, refl)) (λ out. here (IsInRange z) (Err OutOfRange) (out, refl))

as_number : (P : Result ℤ Fault → Type 0) (r : Result ℤ Fault) → P r → (q : Result Document Fault) × IsNumber P q
as_number P (Ok z) is = (Ok (whole z), (z, refl, is))
as_number P (Err f) is = (Err f, is)

pub some_number : (P : Result ℤ Fault → Type 0) → Exists P → Exists (IsNumber P)
some_number P some none = some (λ h. none (as_number P h.0 h.1))

pub some_quotient : (a b : ℤ) → Exists (IsQuotient a b)
some_quotient a b = split {A = b ≡ pos 0}
    (λ nought. here (IsQuotient a b) (Err NotExact) record { by_zero = λ e. refl; rest = λ some left. refl; exact = λ some none. absurd (some nought) })
    (λ some. split {A = int_rem a b ≡ pos 0}
    (λ none. follow (some_in_range (int_div a b)) (λ h. here (IsQuotient a b) h.0 record { by_zero = λ e. absurd (some e); rest = λ also left. absurd (left none); exact = λ also nothing. h.1 }))
    (λ left. here (IsQuotient a b) (Err NotExact) record { by_zero = λ e. refl; rest = λ also over. refl; exact = λ also none. absurd (left none) }))

pub some_power : (base exponent : ℤ) → Exists (IsPower base exponent)
some_power base (pos e) = some_in_range (int_pow base e)
some_power base (negsuc e) = some_same (Err NotExact)

not_right : (b : Bool) → (b && false) ≡ true → ⊥
not_right b h = false≢true (sym (and_right b false refl) ∙ h)

-- a minus is no digit
behind_no_digit : (b : ℕ) (bs : List ℕ) (minus : Bool) → (b == 45) ≡ minus → are_digits (b ∷ bs) ≡ true → are_digits (if minus then bs else []) ≡ true → ⊥
behind_no_digit b bs false e digits more = false≢true more
behind_no_digit b bs true e digits more =
    let same : b ≡ 45 = eqb-true b 45 e in
    not_right (not (length (b ∷ bs) == 0)) (subst (λ k. are_digits (k ∷ bs) ≡ true) same digits)

not_both : (bs : List ℕ) → are_digits bs ≡ true → are_digits (behind_minus bs) ≡ true → ⊥
not_both [] digits more = false≢true digits
not_both (b ∷ bs) digits more = behind_no_digit b bs (b == 45) refl digits more

pub some_number_of : (bs : List ℕ) → Exists (IsNumberOf bs)
some_number_of bs = elim (cases_Bool (are_digits bs)) [
  | inl digits ↦ follow (some_in_range (pos (digits_from 0 bs))) (λ h. here (IsNumberOf bs) h.0 record {
    from_zero = λ e. h.1;
    below_zero = λ e. absurd (not_both bs digits e);
    no_number = λ e f. absurd (false≢true (sym e ∙ digits));
  })
  | inr other ↦ elim (cases_Bool (are_digits (behind_minus bs))) [
    | inl digits ↦ follow (some_in_range (neg_ℤ (pos (digits_from 0 (behind_minus bs))))) (λ h. here (IsNumberOf bs) h.0 record {
      from_zero = λ e. absurd (false≢true (sym other ∙ e));
      below_zero = λ e. h.1;
      no_number = λ e f. absurd (false≢true (sym f ∙ digits));
    })
    | inr none ↦ here (IsNumberOf bs) (Err WrongKind) record {
      from_zero = λ e. absurd (false≢true (sym other ∙ e));
      below_zero = λ e. absurd (false≢true (sym none ∙ e));
      no_number = λ e f. refl;
    }
  ]
]

pub some_of_numbers : (P : ℤ → ℤ → Result ℤ Fault → Type 0) → ((a b : ℤ) → Exists (P a b)) → (d e : Document) → Exists (IsOfNumbers P d e)
some_of_numbers P some (whole a) (whole b) = some_number (P a b) (some a b)
some_of_numbers P some _ _ = some_same (Err WrongKind)

pub some_sum : (d e : Document) → Exists (IsSum d e)
some_sum (whole a) (whole b) = some_number _ (some_in_range _)
some_sum (text s) (text t) = some_same _
some_sum _ _ = some_same (Err WrongKind)

pub some_negated : (d : Document) → Exists (IsNegated d)
some_negated (whole z) = some_number _ (some_in_range _)
some_negated _ = some_same (Err WrongKind)

pub some_kept : (d : Document) → Exists (IsKept d)
some_kept (whole z) = some_same (Ok (whole z))
some_kept _ = some_same (Err WrongKind)

pub some_length : (d : Document) → Exists (IsLengthOf d)
some_length (text bs) = some_in_range _
some_length (array ds) = some_in_range _
some_length _ = some_same (Err WrongKind)

pub some_absolute : (d : Document) → Exists (IsAbsolute d)
some_absolute (whole z) = some_number _ (some_in_range _)
some_absolute _ = some_same (Err WrongKind)

pub some_read : (d : Document) → Exists (IsRead d)
some_read (text bs) = some_number (IsNumberOf bs) (some_number_of bs)
some_read _ = some_same (Err WrongKind)

-- ---- truth

pub some_truth : (P : Type 0) → Exists (IsTruthOf P)
some_truth P = split {A = P}
    (λ is. here (IsTruthOf P) (Ok (boolean true)) (true, ((λ e. is), (λ p. refl)), refl))
    (λ not_so. here (IsTruthOf P) (Ok (boolean false)) (false, ((λ e. absurd (false≢true e)), (λ p. absurd (not_so p))), refl))

pub some_within : (d e : Document) → Exists (IsWithin d e)
some_within d (array ds) = some_truth _
some_within (text s) (text t) = some_truth _
some_within (text s) (object ms) = some_same _
some_within _ _ = some_same (Err WrongKind)

-- ---- pieces

-- a separator stands somewhere, the first time behind a piece, or it stands nowhere
pub record Cut (sep bs : List ℕ) : Type 0 where
  pub piece : List ℕ
  pub rest : List ℕ
  pub first : IsFirstCut sep bs piece rest

abbrev pub Cuts : List ℕ → List ℕ → Type 0
Cuts sep bs = Cut sep bs ⊎ ((i : ℕ) → i ≤ length bs → LacksTextAt sep bs i)

at_front : (sep bs rest : List ℕ) → bs ≡ sep ++ rest → Cut sep bs
at_front sep bs rest e = record { piece = []; rest = rest; first = record { spelled = e; first = λ i less. absurd (omega arith) } }

no_text : (sep : List ℕ) → ¬ ((rest : List ℕ) × ([] ≡ sep ++ rest)) → (i : ℕ) → i ≤ 0 → LacksTextAt sep [] i
no_text sep lacks zero upto rest e = lacks (rest, e)
no_text sep lacks (suc i) upto rest e = absurd (omega arith)

at_or_behind : (sep : List ℕ) (b : ℕ) (bs : List ℕ) → ¬ ((rest : List ℕ) × (b ∷ bs ≡ sep ++ rest)) → (n : ℕ) → ((i : ℕ) → i < n → LacksTextAt sep bs i) → (i : ℕ) → i < suc n → LacksTextAt sep (b ∷ bs) i
at_or_behind sep b bs lacks n more zero less rest e = lacks (rest, e)
at_or_behind sep b bs lacks n more (suc i) less rest e = more i (omega arith) rest e

one_further : (sep : List ℕ) (b : ℕ) (bs : List ℕ) → ¬ ((rest : List ℕ) × (b ∷ bs ≡ sep ++ rest)) → Cuts sep bs → Cuts sep (b ∷ bs)
one_further sep b bs lacks (inl cut) = inl record {
  piece = b ∷ cut.piece;
  rest = cut.rest;
  first = record { spelled = ap (λ l. b ∷ l) cut.first.spelled; first = at_or_behind sep b bs lacks (length cut.piece) cut.first.first };
}
one_further sep b bs lacks (inr none) = inr (λ i upto. at_or_behind sep b bs lacks (suc (length bs)) (λ j less. none j (omega arith)) i (omega arith))

pub some_cut : (sep bs : List ℕ) → ¬ ¬ Cuts sep bs
some_cut sep [] = split {A = (rest : List ℕ) × ([] ≡ sep ++ rest)} (λ h none. none (inl (at_front sep [] h.0 h.1))) (λ lacks none. none (inr (no_text sep lacks)))
some_cut sep (b ∷ bs) = split {A = (rest : List ℕ) × (b ∷ bs ≡ sep ++ rest)} (λ h none. none (inl (at_front sep (b ∷ bs) h.0 h.1))) (λ lacks. follow (some_cut sep bs) (λ h none. none (one_further sep b bs lacks h)))

-- the pieces of what is left, behind one more
one_more : (sep bs : List ℕ) (cut : Cut sep bs) (ps : List (List ℕ)) → IsSplit sep cut.rest ps → (qs : List (List ℕ)) × IsSplit sep bs qs
one_more sep bs cut [] none = absurd none
one_more sep bs cut (p ∷ ps) is = (cut.piece ∷ p ∷ ps, (cut.rest, cut.first, is))

less_left : (c : ℕ) (sep bs : List ℕ) (cut : Cut (c ∷ sep) bs) → length cut.rest < length bs
less_left c sep bs cut = omega (arith, ap length cut.first.spelled, length-append cut.piece ((c ∷ sep) ++ cut.rest), length-append sep cut.rest)

some_split_by : (n c : ℕ) (sep bs : List ℕ) → length bs ≤ n → Exists (IsSplit (c ∷ sep) bs)
some_split_by zero c sep bs upto = follow (some_cut (c ∷ sep) bs) (λ h. elim h [
  | inl cut ↦ absurd (omega (arith, less_left c sep bs cut))
  | inr none ↦ here (IsSplit (c ∷ sep) bs) (bs ∷ []) (refl, none)
])
some_split_by (suc n) c sep bs upto = follow (some_cut (c ∷ sep) bs) (λ h. elim h [
  | inl cut ↦ follow (some_split_by n c sep cut.rest (omega (arith, less_left c sep bs cut))) (λ k. let more = one_more (c ∷ sep) bs cut k.0 k.1 in here (IsSplit (c ∷ sep) bs) more.0 more.1)
  | inr none ↦ here (IsSplit (c ∷ sep) bs) (bs ∷ []) (refl, none)
])

pub some_pieces : (d e : Document) → Exists (IsPieces d e)
some_pieces (text bs) (text []) = some_same _
some_pieces (text bs) (text (c ∷ sep)) = follow (some_split_by (length bs) c sep bs (omega arith)) (λ h. here (IsPieces (text bs) (text (c ∷ sep))) (Ok (array (items_of (map text h.0)))) (h.0, h.1, refl))
some_pieces _ _ = some_same (Err WrongKind)

-- ---- spans

some_text_of : (z : ℤ) → Exists (IsTextOf z)
some_text_of z = split {A = (m : ℕ) × (z ≡ pos m) × (m ≤ 253_402_300_799_999)}
    (λ h. let told = moment_text h.0 h.2 in here (IsTextOf z) (Ok (text told.0)) (h.0, told.0, h.1, h.2, told.1, refl))
    (λ none. here (IsTextOf z) (Err OutOfRange) ((λ m upto e. none (m, e, upto)), refl))

some_moved_from : (span : Bool × ℕ) (from : List ℕ) → Exists (IsMovedFrom span from)
some_moved_from span from = split {A = (m : ℕ) × IsDateTime m from}
    (λ h. follow (some_text_of (shifted span h.0)) (λ k. here (IsMovedFrom span from) k.0 (inl (h.0, h.1, k.1))))
    (λ none. here (IsMovedFrom span from) (Err WrongKind) (inr ((λ m is. none (m, is)), refl)))

some_moved : (span : Bool × ℕ) (from : Option Document) → Exists (IsMoved span from)
some_moved span None = some_same _
some_moved span (Some (text from)) = some_moved_from span from
some_moved span (Some _) = some_same (Err WrongKind)

some_by_span : (o : Option (Bool × ℕ)) (from : Option Document) → Exists (IsMovedBy o from)
some_by_span None from = some_same _
some_by_span (Some span) from = some_moved span from

pub some_from_now : (d : Document) (from : Option Document) → Exists (IsFromNow d from)
some_from_now (text bs) from = some_by_span (span_of bs) from
some_from_now _ from = some_same (Err WrongKind)
