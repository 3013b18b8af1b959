-- Sums of parts of a span, up to the greatest number of 64 bits.
use Rattle.std.proofs.Common.{◌≡◌, ℕ, zero, suc, ◌+◌, ◌*◌, ◌<◌, ◌≤◌, min, Bool, true, false, not, ◌&&◌, ◌==◌, cond, if◌then◌else◌, length, drop, get_or, slice_index, eq-eqb, drop-cons, add-one, List, [], ◌∷◌, Option, Some, None, option_map, MatchOption, IsSome, IfSome, ◌↔◌, ◌≢◌, ◌-◌, pos, refl, sym, ap, subst, ◌∙◌, inl, inr, arith, Result, Ok, Err}
use Rattle.std.proofs.lemmas.Bool.{cases_lt, false≢true, ne_eqb}
use Rattle.std.proofs.lemmas.List.{drop_all}
use Rattle.std.proofs.lemmas.Int.{ints}
use Rattle.farm_text.specs.DateTime.{IsDateTime}
use Rattle.farm_text.specs.Document.{Document}
use Rattle.farm_text.specs.Doc.{document}
use Rattle.farm_text.specs.declared.doc.Doc.{Doc}
use Rattle.farm_text.specs.declared.doc.Doc.TheVariants.{Text as text_doc}
use Rattle.jsone_values.specs.declared.faults.Stop.{Stop}
use Rattle.jsone_values.specs.declared.faults.Stop.TheVariants.{Fault as a_fault, NoMemory}
use Rattle.jsone_values.specs.Meets.{Meets}
use Rattle.jsone_values.specs.Numbers.{digits_from}
use Rattle.jsone_values.proofs.JoinLemmas.{document-Text}
use Rattle.jsone_values.specs.Spans.{units, unit_of, is_unit, parts_of, unspaced, front_digits, behind_digits, front_word, behind_word, begins_with_part, behind_part, span_of, shifted, IsTextOf, IsPlaceOf, IsMovedFrom, IsMoved, IsMovedBy, IsFromNow}

product_capped : (d u : ℕ) → min (min d 18446744073709551615 * u) 18446744073709551615 ≡ min (d * u) 18446744073709551615
product_capped d zero = omega arith
product_capped d (suc v) = elim (cases_lt 18446744073709551615 d) [
  | inl more ↦ let most : min d 18446744073709551615 ≡ 18446744073709551615 = omega arith in rw most (omega arith)
  | inr less ↦ let same : min d 18446744073709551615 ≡ d = omega arith in rw same refl
]

sum_capped : (total d u n : ℕ) → min (total + (d * u + n)) 18446744073709551615 ≡ min (min (total + min (min d 18446744073709551615 * u) 18446744073709551615) 18446744073709551615 + n) 18446744073709551615
sum_capped total d u n = rw (product_capped d u) (omega arith)

with_part : (o : Option ℕ) (total d u : ℕ) → option_map (λ n. min (total + n) 18446744073709551615) (option_map (λ n. d * u + n) o) ≡ option_map (λ n. min (min (total + min (min d 18446744073709551615 * u) 18446744073709551615) 18446744073709551615 + n) 18446744073709551615) o
with_part None total d u = refl
with_part (Some n) total d u = ap Some (sum_capped total d u n)

-- a part at the front is counted, and without one the next unit is tried
pub one_part : (u : ℕ) (us bs : List ℕ) (total : ℕ) → begins_with_part u (unspaced bs) ≡ true
    → option_map (λ n. min (total + n) 18446744073709551615) (parts_of (u ∷ us) bs)
    ≡ option_map (λ n. min (min (total + min (min (digits_from 0 (front_digits (unspaced bs))) 18446744073709551615 * u) 18446744073709551615) 18446744073709551615 + n) 18446744073709551615) (parts_of us (behind_part (unspaced bs)))
one_part u us bs total is = rw is (with_part (parts_of us (behind_part (unspaced bs))) total (digits_from 0 (front_digits (unspaced bs))) u)

pub no_part : (u : ℕ) (us bs : List ℕ) → begins_with_part u (unspaced bs) ≡ false → parts_of (u ∷ us) bs ≡ parts_of us bs
no_part u us bs is = rw is refl

-- whether a text begins with a part
some_digits : (bs ds : List ℕ) (b : Bool) → ds ≡ front_digits bs → (length ds == 0) ≡ b → (length (front_digits bs) == 0) ≡ b
some_digits bs ds b front h = ap (λ (l : List ℕ). length l == 0) (sym front) ∙ h

named_unit : (bs behind un word : List ℕ) (o : Option ℕ) → behind ≡ behind_digits bs → un ≡ unspaced behind → word ≡ front_word un → o ≡ unit_of word → unit_of (front_word (unspaced (behind_digits bs))) ≡ o
named_unit bs behind un word o e f g h = sym (h ∙ ap unit_of g ∙ ap (λ l. unit_of (front_word l)) f ∙ ap (λ l. unit_of (front_word (unspaced l))) e)

pub no_digits : (unit : ℕ) (bs ds : List ℕ) → ds ≡ front_digits bs → length ds ≡ 0 → begins_with_part unit bs ≡ false
no_digits unit bs ds front none = ap (λ b. not b && is_unit unit (unit_of (front_word (unspaced (behind_digits bs))))) (some_digits bs ds true front (eq-eqb (length ds) 0 none))

begins_by : (unit : ℕ) (bs ds behind un word : List ℕ) (o : Option ℕ) (b : Bool) → ds ≡ front_digits bs → behind ≡ behind_digits bs → un ≡ unspaced behind → word ≡ front_word un → (length ds ≡ 0 → ⊥) → o ≡ unit_of word → is_unit unit o ≡ b → begins_with_part unit bs ≡ b
begins_by unit bs ds behind un word o b front e f g some named is =
    ap (λ c. not c && is_unit unit (unit_of (front_word (unspaced (behind_digits bs))))) (some_digits bs ds false front (ne_eqb (length ds) 0 some))
    ∙ ap (is_unit unit) (named_unit bs behind un word o e f g named) ∙ is

pub this_unit : (unit size : ℕ) (bs ds behind un word : List ℕ) (o : Option ℕ) → ds ≡ front_digits bs → behind ≡ behind_digits bs → un ≡ unspaced behind → word ≡ front_word un → (length ds ≡ 0 → ⊥) → o ≡ unit_of word → o ≡ Some size → size ≡ unit → begins_with_part unit bs ≡ true
this_unit unit size bs ds behind un word o front e f g some named is same = begins_by unit bs ds behind un word o true front e f g some named (ap (is_unit unit) is ∙ eq-eqb size unit same)

pub other_unit : (unit size : ℕ) (bs ds behind un word : List ℕ) (o : Option ℕ) → ds ≡ front_digits bs → behind ≡ behind_digits bs → un ≡ unspaced behind → word ≡ front_word un → (length ds ≡ 0 → ⊥) → o ≡ unit_of word → o ≡ Some size → (size ≡ unit → ⊥) → begins_with_part unit bs ≡ false
other_unit unit size bs ds behind un word o front e f g some named is other = begins_by unit bs ds behind un word o false front e f g some named (ap (is_unit unit) is ∙ ne_eqb size unit other)

pub no_unit : (unit : ℕ) (bs ds behind un word : List ℕ) (o : Option ℕ) → ds ≡ front_digits bs → behind ≡ behind_digits bs → un ≡ unspaced behind → word ≡ front_word un → (length ds ≡ 0 → ⊥) → o ≡ unit_of word → o ≡ None → begins_with_part unit bs ≡ false
no_unit unit bs ds behind un word o front e f g some named is = begins_by unit bs ds behind un word o false front e f g some named (ap (is_unit unit) is)

pub rest_of_part : (bs behind un rest : List ℕ) → behind ≡ behind_digits bs → un ≡ unspaced behind → rest ≡ behind_word un → rest ≡ behind_part bs
rest_of_part bs behind un rest e f g = g ∙ ap behind_word f ∙ ap (λ l. behind_word (unspaced l)) e

-- the sum so far, at each unit
pub nothing_summed : (o : Option ℕ) → option_map (λ n. min (0 + n) 18446744073709551615) o ≡ option_map (λ n. min n 18446744073709551615) o
nothing_summed None = refl
nothing_summed (Some n) = let same : 0 + n ≡ n = omega arith in ap (λ k. Some (min k 18446744073709551615)) same

next_unit : (us : List ℕ) (i u : ℕ) → i < length us → u ≡ get_or us i 0 → drop i us ≡ u ∷ drop (i + 1) us
next_unit us i u less is = drop-cons us i 0 less ∙ ap (λ x. x ∷ drop (suc i) us) (sym is) ∙ ap (λ j. u ∷ drop j us) (sym (add-one i))

pub part_taken : (us bs un behind : List ℕ) (i u count total next : ℕ) (all : Option ℕ) → i < length us → u ≡ get_or us i 0 → un ≡ unspaced bs → begins_with_part u un ≡ true → count ≡ min (digits_from 0 (front_digits un)) 18446744073709551615 → behind ≡ behind_part un
    → next ≡ min (total + min (count * u) 18446744073709551615) 18446744073709551615 → option_map (λ n. min (total + n) 18446744073709551615) (parts_of (drop i us) bs) ≡ all
    → option_map (λ n. min (next + n) 18446744073709551615) (parts_of (drop (i + 1) us) behind) ≡ all
part_taken us bs un behind i u count total next all less is e begins counted rest sum h =
    let times : count ≡ min (digits_from 0 (front_digits (unspaced bs))) 18446744073709551615 = counted ∙ ap (λ l. min (digits_from 0 (front_digits l)) 18446744073709551615) e in
    let whole = sum ∙ ap (λ k. min (total + min (k * u) 18446744073709551615) 18446744073709551615) times in
    ap (λ k. option_map (λ n. min (k + n) 18446744073709551615) (parts_of (drop (i + 1) us) behind)) whole
    ∙ ap (λ l. option_map (λ n. min (min (total + min (min (digits_from 0 (front_digits (unspaced bs))) 18446744073709551615 * u) 18446744073709551615) 18446744073709551615 + n) 18446744073709551615) (parts_of (drop (i + 1) us) l)) (rest ∙ ap behind_part e)
    ∙ sym (one_part u (drop (i + 1) us) bs total (ap (begins_with_part u) (sym e) ∙ begins))
    ∙ ap (λ l. option_map (λ n. min (total + n) 18446744073709551615) (parts_of l bs)) (sym (next_unit us i u less is))
    ∙ h

pub part_absent : (us bs un : List ℕ) (i u total : ℕ) (all : Option ℕ) → i < length us → u ≡ get_or us i 0 → un ≡ unspaced bs → begins_with_part u un ≡ false → option_map (λ n. min (total + n) 18446744073709551615) (parts_of (drop i us) bs) ≡ all
    → option_map (λ n. min (total + n) 18446744073709551615) (parts_of (drop (i + 1) us) bs) ≡ all
part_absent us bs un i u total all less is e none h =
    ap (option_map (λ n. min (total + n) 18446744073709551615)) (sym (no_part u (drop (i + 1) us) bs (ap (begins_with_part u) (sym e) ∙ none)))
    ∙ ap (λ l. option_map (λ n. min (total + n) 18446744073709551615) (parts_of l bs)) (sym (next_unit us i u less is))
    ∙ h

left_over : (us bs un : List ℕ) (i total : ℕ) (b : Bool) (all : Option ℕ) → length us ≤ i → un ≡ unspaced bs → (length un == 0) ≡ b → option_map (λ n. min (total + n) 18446744073709551615) (parts_of (drop i us) bs) ≡ all
    → option_map (λ n. min (total + n) 18446744073709551615) (if b then Some 0 else None) ≡ all
left_over us bs un i total b all past e is h =
    ap (λ c. option_map (λ n. min (total + n) 18446744073709551615) (if c then Some 0 else None)) (sym (ap (λ (l : List ℕ). length l == 0) (sym e) ∙ is))
    ∙ ap (λ l. option_map (λ n. min (total + n) 18446744073709551615) (parts_of l bs)) (sym (drop_all i us past))
    ∙ h

pub all_summed : (us bs un : List ℕ) (i total : ℕ) (all : Option ℕ) → length us ≤ i → un ≡ unspaced bs → length un ≡ 0 → total ≤ 18446744073709551615 → option_map (λ n. min (total + n) 18446744073709551615) (parts_of (drop i us) bs) ≡ all → Some total ≡ all
all_summed us bs un i total all past e none small h =
    let same : total ≡ min (total + 0) 18446744073709551615 = omega arith in
    ap (λ k. Some k) same ∙ left_over us bs un i total true all past e (eq-eqb (length un) 0 none) h

pub more_is_left : (us bs un : List ℕ) (i total : ℕ) (all : Option ℕ) → length us ≤ i → un ≡ unspaced bs → (length un ≡ 0 → ⊥) → option_map (λ n. min (total + n) 18446744073709551615) (parts_of (drop i us) bs) ≡ all → None ≡ all
more_is_left us bs un i total all past e some h = left_over us bs un i total false all past e (ne_eqb (length un) 0 some) h

-- a sign is carried along
abbrev beside : Bool → Option ℕ → Option (Bool × ℕ)
beside b o = option_map {T = ℕ} {U = Bool × ℕ} (λ n. (b, n)) o

abbrev capped : Option (Bool × ℕ) → Option (Bool × ℕ)
capped o = option_map {T = Bool × ℕ} {U = Bool × ℕ} (λ span. (span.0, min span.1 18446744073709551615)) o

signed_capped : (b : Bool) (o : Option ℕ) → beside b (option_map (λ n. min n 18446744073709551615) o) ≡ capped (beside b o)
signed_capped b None = refl
signed_capped b (Some n) = refl

abbrev by_sign : Bool → Bool → List ℕ → Option (Bool × ℕ)
by_sign minus plus bs =
    if minus then beside true (parts_of units (drop 1 (unspaced bs)))
    else (if plus then beside false (parts_of units (drop 1 (unspaced bs)))
    else beside false (parts_of units bs))

first_is : (bs rest : List ℕ) (first code : ℕ) (b : Bool) → rest ≡ unspaced bs → first ≡ slice_index rest 0 → (first == code) ≡ b → (slice_index (unspaced bs) 0 == code) ≡ b
first_is bs rest first code b e f is = ap (λ (l : List ℕ). slice_index l 0 == code) (sym e) ∙ ap (λ k. k == code) (sym f) ∙ is

signed_parts : (is_back : Bool) (left : List ℕ) (o : Option ℕ) (r : Option (Bool × ℕ)) → o ≡ option_map (λ n. min n 18446744073709551615) (parts_of units left) → r ≡ beside is_back o
    → r ≡ capped (beside is_back (parts_of units left))
signed_parts is_back left o r e h = h ∙ ap (beside is_back) e ∙ signed_capped is_back (parts_of units left)

pub behind_a_minus : (bs rest left : List ℕ) (first : ℕ) (o : Option ℕ) (r : Option (Bool × ℕ)) → rest ≡ unspaced bs → left ≡ drop 1 rest → first ≡ slice_index rest 0 → first ≡ 45 → o ≡ option_map (λ n. min n 18446744073709551615) (parts_of units left) → r ≡ beside true o
    → r ≡ capped (span_of bs)
behind_a_minus bs rest left first o r e l f is h k =
    signed_parts true left o r h k
    ∙ ap (λ x. capped (beside true (parts_of units x))) (l ∙ ap (drop 1) e)
    ∙ ap (λ b. capped (by_sign b (slice_index (unspaced bs) 0 == 43) bs)) (sym (first_is bs rest first 45 true e f (eq-eqb first 45 is)))

pub behind_a_plus : (bs rest left : List ℕ) (first : ℕ) (o : Option ℕ) (r : Option (Bool × ℕ)) → rest ≡ unspaced bs → left ≡ drop 1 rest → first ≡ slice_index rest 0 → (first ≡ 45 → ⊥) → first ≡ 43 → o ≡ option_map (λ n. min n 18446744073709551615) (parts_of units left)
    → r ≡ beside false o → r ≡ capped (span_of bs)
behind_a_plus bs rest left first o r e l f other is h k =
    signed_parts false left o r h k
    ∙ ap (λ x. capped (beside false (parts_of units x))) (l ∙ ap (drop 1) e)
    ∙ ap (λ b. capped (by_sign false b bs)) (sym (first_is bs rest first 43 true e f (eq-eqb first 43 is)))
    ∙ ap (λ b. capped (by_sign b (slice_index (unspaced bs) 0 == 43) bs)) (sym (first_is bs rest first 45 false e f (ne_eqb first 45 other)))

pub without_a_sign : (bs rest : List ℕ) (first : ℕ) (o : Option ℕ) (r : Option (Bool × ℕ)) → rest ≡ unspaced bs → first ≡ slice_index rest 0 → (first ≡ 45 → ⊥) → (first ≡ 43 → ⊥) → o ≡ option_map (λ n. min n 18446744073709551615) (parts_of units bs)
    → r ≡ beside false o → r ≡ capped (span_of bs)
without_a_sign bs rest first o r e f other also h k =
    signed_parts false bs o r h k
    ∙ ap (λ b. capped (by_sign false b bs)) (sym (first_is bs rest first 43 false e f (ne_eqb first 43 also)))
    ∙ ap (λ b. capped (by_sign b (slice_index (unspaced bs) 0 == 43) bs)) (sym (first_is bs rest first 45 false e f (ne_eqb first 45 other)))

pub moved_back : (o : Option ℕ) (moment millis earlier n : ℕ) → moment ≤ 253402300799999 → millis ≡ min n 18446744073709551615 → millis ≤ moment → earlier ≡ moment - millis
    → (IsSome o ↔ (earlier ≤ 253402300799999)) → IfSome o (λ m. m ≡ earlier) → IsPlaceOf (shifted (true, n) moment) o
moved_back None moment millis earlier n within is less e some value = absurd (false≢true (some.1 (omega arith)))
moved_back (Some m) moment millis earlier n within is less e some value = (omega (arith, ints, value), omega (arith, value, e))

pub not_moved_back : (moment millis n : ℕ) → millis ≡ min n 18446744073709551615 → (millis ≤ moment → ⊥) → IsPlaceOf (shifted (true, n) moment) None
not_moved_back moment millis n is more = λ m upto same. more (omega (arith, ints))

pub moved_on : (o : Option ℕ) (moment millis later n : ℕ) → moment ≤ 253402300799999 → millis ≡ min n 18446744073709551615 → later ≡ min (moment + millis) 18446744073709551615
    → (IsSome o ↔ (later ≤ 253402300799999)) → IfSome o (λ m. m ≡ later) → IsPlaceOf (shifted (false, n) moment) o
moved_on None moment millis later n within is e some value = λ m upto same. false≢true (some.1 (omega (arith, ints)))
moved_on (Some m) moment millis later n within is e some value =
    let upto = some.0 refl in
    (omega (arith, ints, value, upto), omega (arith, value, upto))

-- from the moment that is read
pub from_moment : (span : Bool × ℕ) (from : List ℕ) (m : ℕ) (r : Result Doc Stop) → IsDateTime m from → Meets (IsTextOf (shifted span m)) r → Meets (IsMovedFrom span from) r
from_moment span from m (Ok d) is h = inl (m, is, h)
from_moment span from m (Err (a_fault f)) is h = inl (m, is, h)
from_moment span from m (Err NoMemory) is h = tt

pub from_value : (span : Bool × ℕ) (value : Doc) (bs : List ℕ) (r : Result Doc Stop) → value ≡ text_doc bs → Meets (IsMovedFrom span bs) r → Meets (IsMoved span (Some (document value))) r
from_value span value bs r e h = subst (λ d. Meets (IsMoved span (Some d)) r) (sym (ap document e ∙ document-Text bs)) h

-- by the span that there is
same_span : (p : Bool × ℕ) (q : Bool × ℕ) (o : Option (Bool × ℕ)) → o ≡ Some p → o ≡ Some q → p ≡ q
same_span p q o e f = cc

pub by_a_span : (span : Option (Bool × ℕ)) (b : Bool) (m : ℕ) (value : Option Document) (r : Result Doc Stop) → span ≡ Some (b, m) → ((n : ℕ) → m ≡ min n 18446744073709551615 → Meets (IsMoved (b, n) value) r)
    → (o : Option (Bool × ℕ)) → span ≡ capped o → Meets (IsMovedBy o value) r
by_a_span span b m value r is leads None e = absurd (cc)
by_a_span span b m value r is leads (Some p) e =
    let same = same_span (b, m) (p.0, min p.1 18446744073709551615) span is e in
    subst (λ c. Meets (IsMoved (c, p.1) value) r) (ap (λ (q : Bool × ℕ). q.0) same) (leads p.1 (ap (λ (q : Bool × ℕ). q.1) same))

pub from_now : (value : Doc) (bs : List ℕ) (from : Option Document) (r : Result Doc Stop) → value ≡ text_doc bs → Meets (IsMovedBy (span_of bs) from) r → Meets (IsFromNow (document value) from) r
from_now value bs from r e h = subst (λ d. Meets (IsFromNow d from) r) (sym (ap document e ∙ document-Text bs)) h
