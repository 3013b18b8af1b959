-- A list can be sorted.
use Rattle.std.proofs.Common.{◌≡◌, ℕ, zero, suc, ◌+◌, ◌<◌, ◌≤◌, Bool, true, false, cond, not, ◌&&◌, List, [], ◌∷◌, length, get_or, map, Result, Ok, Err, refl, sym, ap, subst, ◌∙◌, arith, add-one}
use Rattle.std.proofs.lemmas.Bool.{false≢true}
use Rattle.std.specs.Bool.{MatchBool}
use Rattle.std.specs.List.{filter}
use Rattle.std.specs.List.Sorted.{IsSortedBy, IsStableBy, ties}
use Rattle.farm_text.specs.Document.{Document, array, items_of}
use Rattle.jsone_values.specs.declared.faults.Fault.{Fault}
use Rattle.jsone_values.specs.declared.faults.Fault.TheVariants.{WrongKind}
use Rattle.jsone_values.specs.Members.{listed}
use Rattle.jsone_eval.proofs.Existence.{Exists, here, some_same}
use Rattle.jsone_render.specs.Sorting.{comes_before, are_of_one_kind, IsSorting, IsSortOf, IsSortAlone}
use Rattle.jsone_render.proofs.OneSorting.{order, by_both}

abbrev Pair : Type 0
Pair = Document × Document

-- a pair goes before the first one that does not come before it
placed : Pair → List Pair → List Pair
placed p [] = p ∷ []
placed p (q ∷ qs) = cond (comes_before q p) (q ∷ placed p qs) (p ∷ q ∷ qs)

sorted : List Pair → List Pair
sorted [] = []
sorted (p ∷ ps) = placed p (sorted ps)

-- one of two, by a test
taken : {A : Type 0} (b : Bool) (x y : A) → b ≡ true → cond b x y ≡ x
taken true x y h = refl
taken false x y h = absurd (false≢true h)

left : {A : Type 0} (b : Bool) (x y : A) → b ≡ false → cond b x y ≡ y
left false x y h = refl
left true x y h = absurd (false≢true (sym h))

placed_behind : (p q : Pair) (qs : List Pair) → comes_before q p ≡ true → placed p (q ∷ qs) ≡ q ∷ placed p qs
unfolding placed
placed_behind p q qs h = taken (comes_before q p) (q ∷ placed p qs) (p ∷ q ∷ qs) h

placed_here : (p q : Pair) (qs : List Pair) → comes_before q p ≡ false → placed p (q ∷ qs) ≡ p ∷ q ∷ qs
unfolding placed
placed_here p q qs h = left (comes_before q p) (q ∷ placed p qs) (p ∷ q ∷ qs) h

-- ---- the pairs rise

-- nothing that begins a list comes before this pair
abbrev Fits : Pair → List Pair → Type 0
Fits p [] = Unit {0}
Fits p (q ∷ qs) = comes_before q p ≡ false

abbrev Rises : List Pair → Type 0
Rises [] = Unit {0}
Rises (p ∷ ps) = Fits p ps × Rises ps

fits_placed_at : (p q : Pair) (qs : List Pair) (b : Bool) → comes_before q p ≡ b → (r : Pair) → comes_before p r ≡ false → comes_before q r ≡ false → Fits r (placed p (q ∷ qs))
fits_placed_at p q qs true h r over also = subst (Fits r) (sym (placed_behind p q qs h)) also
fits_placed_at p q qs false h r over also = subst (Fits r) (sym (placed_here p q qs h)) over

fits_placed : (p r : Pair) (qs : List Pair) → comes_before p r ≡ false → Fits r qs → Fits r (placed p qs)
unfolding placed
fits_placed p r [] over fits = over
fits_placed p r (q ∷ qs) over fits = fits_placed_at p q qs (comes_before q p) refl r over fits

rises_placed_at : (p q : Pair) (qs : List Pair) (b : Bool) → comes_before q p ≡ b → Rises (q ∷ qs) → Rises (placed p qs) → Rises (placed p (q ∷ qs))
rises_placed_at p q qs true h up more = subst Rises (sym (placed_behind p q qs h)) (fits_placed p q qs (order.one_way q p h) up.0, more)
rises_placed_at p q qs false h up more = subst Rises (sym (placed_here p q qs h)) (h, up)

rises_placed : (p : Pair) (qs : List Pair) → Rises qs → Rises (placed p qs)
unfolding placed
rises_placed p [] up = (tt, tt)
rises_placed p (q ∷ qs) up = rises_placed_at p q qs (comes_before q p) refl up (rises_placed p qs up.1)

rises_sorted : (ps : List Pair) → Rises (sorted ps)
unfolding sorted
rises_sorted [] = tt
rises_sorted (p ∷ ps) = rises_placed p (sorted ps) (rises_sorted ps)

fits_first : (p d : Pair) (ps : List Pair) → Fits p ps → 0 < length ps → comes_before (get_or ps 0 d) p ≡ false
fits_first p d [] fits some = absurd (omega arith)
fits_first p d (q ∷ qs) fits some = fits

-- as the library says it
rises_at : (ps : List Pair) → Rises ps → (k : ℕ) (d : Pair) → suc k < length ps → comes_before (get_or ps (suc k) d) (get_or ps k d) ≡ false
rises_at [] up k d less = absurd (omega arith)
rises_at (p ∷ ps) up zero d less = fits_first p d ps up.0 (omega arith)
rises_at (p ∷ ps) up (suc k) d less = rises_at ps up.1 k d (omega arith)

is_sorted : (ps : List Pair) → Rises ps → IsSortedBy comes_before ps
is_sorted ps up k d low high = subst (λ j. comes_before (get_or ps j d) (get_or ps k d) ≡ false) (sym (add-one k)) (rises_at ps up k d (omega arith))

-- ---- those that tie stay as they stood

kept : (t : Pair → Bool) (p : Pair) (ps qs : List Pair) → filter t ps ≡ filter t qs → filter t (p ∷ ps) ≡ filter t (p ∷ qs)
kept t p ps qs e = ap (λ l. cond (t p) (p ∷ l) l) e

-- a pair and one that comes before it do not both tie with a third
apart : (x p q : Pair) → comes_before q p ≡ true → ties comes_before x p ≡ true → ties comes_before x q ≡ true → ⊥
apart x p q h one two =
    let a = by_both (comes_before x p) (comes_before p x) one in
    let b = by_both (comes_before x q) (comes_before q x) two in
    false≢true (sym (order.chain q x p b.1 a.0) ∙ h)

swapped_at : (t : Pair → Bool) (p q : Pair) (l : List Pair) (a b : Bool) → t p ≡ a → t q ≡ b → (a ≡ true → b ≡ true → ⊥) → filter t (q ∷ p ∷ l) ≡ filter t (p ∷ q ∷ l)
swapped_at t p q l true true h k not_both = absurd (not_both refl refl)
swapped_at t p q l true false h k not_both = rw (h, k) refl
swapped_at t p q l false true h k not_both = rw (h, k) refl
swapped_at t p q l false false h k not_both = rw (h, k) refl

swapped : (x p q : Pair) (l : List Pair) → comes_before q p ≡ true → filter (ties comes_before x) (q ∷ p ∷ l) ≡ filter (ties comes_before x) (p ∷ q ∷ l)
swapped x p q l h =
    swapped_at (ties comes_before x) p q l (ties comes_before x p) (ties comes_before x q) refl refl (apart x p q h)

stable_placed_at : (x p q : Pair) (qs : List Pair) (b : Bool) → comes_before q p ≡ b → filter (ties comes_before x) (placed p qs) ≡ filter (ties comes_before x) (p ∷ qs)
    → filter (ties comes_before x) (placed p (q ∷ qs)) ≡ filter (ties comes_before x) (p ∷ q ∷ qs)
stable_placed_at x p q qs true h e = ap (filter (ties comes_before x)) (placed_behind p q qs h) ∙ kept (ties comes_before x) q (placed p qs) (p ∷ qs) e ∙ swapped x p q qs h
stable_placed_at x p q qs false h e = ap (filter (ties comes_before x)) (placed_here p q qs h)

stable_placed : (x p : Pair) (qs : List Pair) → filter (ties comes_before x) (placed p qs) ≡ filter (ties comes_before x) (p ∷ qs)
unfolding placed
stable_placed x p [] = refl
stable_placed x p (q ∷ qs) = stable_placed_at x p q qs (comes_before q p) refl (stable_placed x p qs)

is_stable : (ps : List Pair) → IsStableBy comes_before ps (sorted ps)
unfolding sorted
is_stable [] = λ x. refl
is_stable (p ∷ ps) = λ x. stable_placed x p (sorted ps) ∙ kept (ties comes_before x) p (sorted ps) ps (is_stable ps x)

-- ---- there is a sorting

sorting : (ps : List Pair) → IsSorting ps (map (λ q. q.1) (sorted ps))
sorting ps = (sorted ps, is_sorted (sorted ps) (rises_sorted ps), is_stable ps, refl)

some_by_kind : (b : Bool) (ps : List Pair) → Exists (λ r. MatchBool b ((ds : List Document) × IsSorting ps ds × (r ≡ Ok (array (items_of ds)))) (r ≡ Err WrongKind))
some_by_kind true ps = here (λ r. (ds : List Document) × IsSorting ps ds × (r ≡ Ok (array (items_of ds)))) (Ok (array (items_of (map (λ q. q.1) (sorted ps))))) (map (λ q. q.1) (sorted ps), sorting ps, refl)
some_by_kind false ps = some_same (Err WrongKind)

pub some_sort_of : (ps : List Pair) → Exists (IsSortOf ps)
some_sort_of ps = some_by_kind (are_of_one_kind ps) ps

pub some_sort_alone : (d : Document) → Exists (IsSortAlone d)
some_sort_alone (array ds) = some_sort_of (map (λ d. (d, d)) (listed ds))
some_sort_alone _ = some_same (Err WrongKind)
