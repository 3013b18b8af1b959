-- How many numbers a range has.
use Rattle.std.proofs.Common.{◌≡◌, ◌≢◌, ℕ, zero, suc, ℤ, pos, negsuc, ◌+◌, ◌-◌, ◌/◌, ◌<◌, ◌≤◌, ◌+ℤ◌, ◌-ℤ◌, ◌≤ℤ◌, ◌<ℤ◌, List, [], ◌∷◌, ◌++◌, length, Bool, true, false, if◌then◌else◌, inl, inr, refl, sym, ap, ◌∙◌, arith, append_assoc, append-nil, length-append, int_lt, FitsSigned, Vec, Global, Result, Ok, Err}
use Rattle.std.proofs.Math.Nat.{add-div_right, div-eq_of_lt}
use Rattle.std.proofs.lemmas.Bool.{cases_lt, cases_Bool, ne_eqb}
use Rattle.std.specs.Int.{w64}
use Rattle.farm_text.specs.Document.{Document, whole, array, items_of}
use Rattle.farm_text.specs.Doc.{document, documents}
use Rattle.farm_text.specs.declared.doc.Doc.{Doc}
use Rattle.farm_text.specs.declared.doc.Doc.TheVariants.{Int as int_doc, List as list_doc}
use Rattle.farm_text.proofs.DocLemmas.{document-List}
use Rattle.jsone_values.specs.declared.faults.Fault.{Fault}
use Rattle.jsone_values.specs.declared.faults.Fault.TheVariants.{OutOfRange}
use Rattle.jsone_values.proofs.JoinLemmas.{document-Int}
use Rattle.std.proofs.lemmas.Int.{ints}
use Rattle.jsone_values.specs.Weights.{weight, items_weight}
use Rattle.jsone_values.specs.Ranges.{positive_part, steps_before, stepping, is_zero, ranged}

-- so many of this size, rounded up
abbrev rounded_up : ℕ → ℕ → ℕ
rounded_up d k = (d + k) / suc k

rounded_one_more : (d k : ℕ) → 0 < d → rounded_up d k ≡ suc (rounded_up (d - suc k) k)
rounded_one_more d k some = elim (cases_lt d (suc k)) [
  | inl less ↦
      let one = add-div_right (d - 1) {k = suc k} (omega arith) in
      let none : (d - 1) / suc k ≡ 0 = div-eq_of_lt (omega arith) in
      let rest : (0 + k) / suc k ≡ 0 = div-eq_of_lt (omega arith) in
      let whole : d + k ≡ (d - 1) + suc k = omega arith in
      let nothing : d - suc k ≡ 0 = omega arith in
      rw (whole, nothing) (omega (arith, one, none, rest))
  | inr more ↦
      let one = add-div_right ((d - suc k) + k) {k = suc k} (omega arith) in
      let whole : d + k ≡ ((d - suc k) + k) + suc k = omega arith in
      rw whole (omega (arith, one))
]

rounded_none : (k : ℕ) → rounded_up 0 k ≡ 0
rounded_none k = div-eq_of_lt (omega arith)

part_is : (z : ℤ) → pos 0 ≤ℤ z → pos (positive_part z) ≡ z
part_is (pos n) h = refl
part_is (negsuc n) h = absurd (omega (arith, ints))

part_none : (z : ℤ) → z ≤ℤ pos 0 → positive_part z ≡ 0
part_none (pos n) h = omega (arith, ints)
part_none (negsuc n) h = refl

-- a step takes as much from the distance
part_less : (y z : ℤ) (k : ℕ) → pos 0 <ℤ z → y ≡ z -ℤ pos (suc k) → positive_part y ≡ positive_part z - suc k
part_less y z k some e =
    let whole = part_is z (omega (arith, ints)) in
    elim (cases_lt (positive_part z) (suc k)) [
      | inl less ↦ let none = part_none y (omega (arith, ints)) in omega arith
      | inr more ↦ let rest = part_is y (omega (arith, ints)) in omega (arith, ints)
    ]

one_more : (y z : ℤ) (k : ℕ) → pos 0 <ℤ z → y ≡ z -ℤ pos (suc k) → rounded_up (positive_part z) k ≡ suc (rounded_up (positive_part y) k)
one_more y z k some e =
    let whole = part_is z (omega (arith, ints)) in
    rounded_one_more (positive_part z) k (omega (arith, ints)) ∙ ap (λ n. suc (rounded_up n k)) (sym (part_less y z k some e))

none_more : (z : ℤ) (k : ℕ) → z ≤ℤ pos 0 → rounded_up (positive_part z) k ≡ 0
none_more z k h = ap (λ n. rounded_up n k) (part_none z h) ∙ rounded_none k

-- a number before the end: one step more than from the next number on
pub step_up : (from end : ℤ) (k : ℕ) → from <ℤ end → steps_before from end (pos (suc k)) ≡ suc (steps_before (from +ℤ pos (suc k)) end (pos (suc k)))
step_up from end k h =
    let same : suc k - 1 ≡ k = omega arith in
    rw (same) (one_more (end -ℤ (from +ℤ pos (suc k))) (end -ℤ from) k (omega (arith, ints)) (omega (arith, ints)))

pub step_down : (from end : ℤ) (k : ℕ) → end <ℤ from → steps_before from end (negsuc k) ≡ suc (steps_before (from +ℤ negsuc k) end (negsuc k))
step_down from end k h =
    let same : k + 1 ≡ suc k = omega arith in
    rw (same) (one_more ((from +ℤ negsuc k) -ℤ end) (from -ℤ end) k (omega (arith, ints)) (omega (arith, ints)))

pub done_up : (from end : ℤ) (k : ℕ) → end ≤ℤ from → steps_before from end (pos (suc k)) ≡ 0
done_up from end k h =
    let same : suc k - 1 ≡ k = omega arith in
    rw (same) (none_more (end -ℤ from) k (omega (arith, ints)))

pub done_down : (from end : ℤ) (k : ℕ) → from ≤ℤ end → steps_before from end (negsuc k) ≡ 0
done_down from end k h =
    let same : k + 1 ≡ suc k = omega arith in
    rw (same) (none_more (from -ℤ end) k (omega (arith, ints)))

-- whether a number is before the end, as the code asks
abbrev pub is_before : ℤ → ℤ → ℤ → Bool
is_before from end step = if int_lt (pos 0) step then int_lt from end else int_lt end from

pub steps_more : (from end step : ℤ) → (step ≡ pos 0 → ⊥) → is_before from end step ≡ true → steps_before from end step ≡ suc (steps_before (from +ℤ step) end step)
steps_more from end (pos zero) some h = absurd (some refl)
steps_more from end (pos (suc k)) some h =
    let up : int_lt (pos 0) (pos (suc k)) ≡ true = grind (arith, ints) in
    let before : int_lt from end ≡ true = rw up at h in
    step_up from end k (grind (arith, ints))
steps_more from end (negsuc k) some h =
    let before : int_lt end from ≡ true = h in
    step_down from end k (grind (arith, ints))

pub steps_done : (from end step : ℤ) → (step ≡ pos 0 → ⊥) → is_before from end step ≡ false → steps_before from end step ≡ 0
steps_done from end (pos zero) some h = absurd (some refl)
steps_done from end (pos (suc k)) some h =
    let up : int_lt (pos 0) (pos (suc k)) ≡ true = grind (arith, ints) in
    let past : int_lt from end ≡ false = rw up at h in
    done_up from end k (grind (arith, ints))
steps_done from end (negsuc k) some h =
    let past : int_lt end from ≡ false = h in
    done_down from end k (grind (arith, ints))

-- a number past 64 bits is past the end
pub steps_past : (from end step : ℤ) → (step ≡ pos 0 → ⊥) → FitsSigned w64 from → FitsSigned w64 end → FitsSigned w64 step → ¬ FitsSigned w64 (from +ℤ step) → steps_before (from +ℤ step) end step ≡ 0
steps_past from end (pos zero) some f e s past = absurd (some refl)
steps_past from end (pos (suc k)) some f e s past = elim (cases_Bool (int_lt (from +ℤ pos (suc k)) end)) [
  | inl before ↦ let less : (from +ℤ pos (suc k)) <ℤ end = grind (arith, ints) in absurd (past (omega (arith, ints)))
  | inr behind ↦ done_up (from +ℤ pos (suc k)) end k (grind (arith, ints))
]
steps_past from end (negsuc k) some f e s past = elim (cases_Bool (int_lt end (from +ℤ negsuc k))) [
  | inl before ↦ let more : end <ℤ (from +ℤ negsuc k) = grind (arith, ints) in absurd (past (omega (arith, ints)))
  | inr behind ↦ done_down (from +ℤ negsuc k) end k (grind (arith, ints))
]

-- one number is taken of those that are left
pub one_number_more : (done : List Document) (from end step : ℤ) (all : List Document) → (step ≡ pos 0 → ⊥) → is_before from end step ≡ true → done ++ stepping from step (steps_before from end step) ≡ all
    → (done ++ whole from ∷ []) ++ stepping (from +ℤ step) step (steps_before (from +ℤ step) end step) ≡ all
one_number_more done from end step all some before h =
    append_assoc done (whole from ∷ []) (stepping (from +ℤ step) step (steps_before (from +ℤ step) end step)) ∙ ap (λ n. done ++ stepping from step n) (sym (steps_more from end step some before)) ∙ h

-- none is left
pub no_number_more : (done : List Document) (from end step : ℤ) (all : List Document) → steps_before from end step ≡ 0 → done ++ stepping from step (steps_before from end step) ≡ all → done ≡ all
no_number_more done from end step all none h = sym (append-nil done) ∙ ap (λ n. done ++ stepping from step n) (sym none) ∙ h

pub more_than_done : (done : List Document) (from end step : ℤ) (all : List Document) → (step ≡ pos 0 → ⊥) → is_before from end step ≡ true → done ++ stepping from step (steps_before from end step) ≡ all → length done < length all
more_than_done done from end step all some before h =
    let whole_length = ap length h in
    let parts = length-append done (stepping from step (steps_before from end step)) in
    let more = ap (λ n. length (stepping from step n)) (steps_more from end step some before) in
    omega (arith, whole_length, parts, more)

pub fewer : (from next end step : ℤ) → (step ≡ pos 0 → ⊥) → is_before from end step ≡ true → next ≡ from +ℤ step → steps_before next end step < steps_before from end step
fewer from next end step some before e = let more = steps_more from end step some before in let same = ap (λ z. steps_before z end step) e in omega (arith, more, same)

pub same_range : (a b y z s t : ℤ) → a ≡ b → y ≡ z → s ≡ t → stepping a s (steps_before a y s) ≡ stepping b t (steps_before b z t)
same_range a b y z s t e f g = ap (λ x. stepping x s (steps_before x y s)) e ∙ ap (λ x. stepping b s (steps_before b x s)) f ∙ ap (λ x. stepping b x (steps_before b z x)) g

abbrev ranged_if : Bool → ℤ → ℤ → ℤ → Result Document Fault
ranged_if b from end step = if b then Err OutOfRange else Ok (array (items_of (stepping from step (steps_before from end step))))

zero_is : (s : ℤ) → s ≡ pos 0 → is_zero s ≡ true
zero_is s e = ap is_zero e

zero_is_not : (s : ℤ) → (s ≡ pos 0 → ⊥) → is_zero s ≡ false
zero_is_not (pos zero) h = absurd (h refl)
zero_is_not (pos (suc n)) h = ne_eqb (suc n) 0 (λ e. omega (arith, e))
zero_is_not (negsuc n) h = refl

pub no_step : (a z s : ℤ) → s ≡ pos 0 → Err OutOfRange ≡ ranged (whole a) (whole z) (whole s)
no_step a z s e = sym (ap (λ b. ranged_if b a z s) (zero_is s e))

pub numbers_made : (a z s : ℤ) (v : Vec Doc Global) → (s ≡ pos 0 → ⊥) → documents v.items ≡ stepping a s (steps_before a z s) → Ok (document (list_doc v)) ≡ ranged (whole a) (whole z) (whole s)
numbers_made a z s v some h = ap Ok (document-List v ∙ ap (λ ds. array (items_of ds)) h) ∙ sym (ap (λ b. ranged_if b a z s) (zero_is_not s some))

-- each number weighs 1
stepping_weight : (from step : ℤ) (n : ℕ) → items_weight (items_of (stepping from step n)) ≡ length (stepping from step n)
stepping_weight from step zero = refl
stepping_weight from step (suc n) = let more = stepping_weight (from +ℤ step) step n in omega (arith, more)

pub numbers_too_many : (a z s : ℤ) (most : ℕ) → (s ≡ pos 0 → ⊥) → most < length (stepping a s (steps_before a z s)) → (x : Document) × (Ok x ≡ ranged (whole a) (whole z) (whole s)) × (most < weight x)
numbers_too_many a z s most some more =
    (array (items_of (stepping a s (steps_before a z s))), sym (ap (λ b. ranged_if b a z s) (zero_is_not s some)), omega (arith, more, stepping_weight a s (steps_before a z s)))
