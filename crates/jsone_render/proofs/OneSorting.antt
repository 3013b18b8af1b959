-- A list is sorted in one way.
use Rattle.std.proofs.Common.{◌≡◌, ℕ, ℤ, zero, suc, ◌+◌, ◌<◌, Bool, true, false, not, ◌&&◌, List, [], ◌∷◌, length, get_or, map, Result, Ok, Err, nat_cmp, refl, sym, ap, subst, ◌∙◌, arith, add-one}
use Rattle.std.proofs.lemmas.Bool.{false≢true}
use Rattle.std.proofs.lemmas.Cmp.{nat_cmp_total, int_cmp_total, nat_list_cmp_total}
use Rattle.std.proofs.lemmas.List.{append_cancel_left}
use Rattle.std.proofs.lemmas.List.MinMax.{ranks_by}
use Rattle.std.proofs.lemmas.List.Sorted.{sorted_far}
use Rattle.std.specs.Bool.{MatchBool}
use Rattle.std.specs.Cmp.{IsStrictWeakOrder}
use Rattle.std.specs.List.{filter}
use Rattle.std.specs.List.Sorted.{IsSortedBy, ties}
use Rattle.std.specs.Ordering.{int_cmp, is_lt}
use Rattle.std.specs.Cmp.Lexicographic.{slice_cmp}
use Rattle.farm_text.specs.Document.{Document, null, boolean, whole, text, array, object, items_of}
use Rattle.jsone_values.specs.declared.faults.Fault.{Fault}
use Rattle.jsone_values.specs.declared.faults.Fault.TheVariants.{WrongKind}
use Rattle.jsone_values.specs.Members.{listed}
use Rattle.jsone_values.proofs.OneLemmas.{IsOne}
use Rattle.jsone_render.specs.Sorting.{kind_rank, key_order, comes_before, are_of_one_kind, IsSorting, IsSortOf, IsSortAlone}

numbers : IsStrictWeakOrder (λ (x y : ℤ). is_lt (int_cmp x y))
numbers = ranks_by int_cmp_total (λ z. z)

words : IsStrictWeakOrder (λ (x y : List ℕ). is_lt (slice_cmp nat_cmp x y))
words = ranks_by nat_list_cmp_total (λ bs. bs)

kinds : IsStrictWeakOrder (λ (x y : ℕ). is_lt (nat_cmp x y))
kinds = ranks_by nat_cmp_total (λ n. n)

abbrev Before : Document → Document → Bool
Before d e = is_lt (key_order d e)

one_way : (d e : Document) → Before d e ≡ true → Before e d ≡ false
one_way (whole a) (whole b) h = numbers.one_way a b h
one_way (text s) (text t) h = words.one_way s t h
one_way null null h = absurd (false≢true h)
one_way (boolean b) (boolean e) h = absurd (false≢true h)
one_way (array ds) (array es) h = absurd (false≢true h)
one_way (object ms) (object ns) h = absurd (false≢true h)
one_way d e h = kinds.one_way (kind_rank d) (kind_rank e) h

chain : (d e f : Document) → Before d e ≡ false → Before e f ≡ false → Before d f ≡ false
chain (whole a) (whole b) (whole z) h k = numbers.chain a b z h k
chain (text s) (text t) (text u) h k = words.chain s t u h k
chain (whole a) (whole b) f h k = k
chain d (whole b) (whole z) h k = h
chain (text s) (text t) f h k = k
chain d (text t) (text u) h k = h
chain (whole a) e (whole z) h k = absurd (false≢true (sym h))
chain (text s) (whole b) (text u) h k = absurd (false≢true (sym k))
chain (text s) e (text u) h k = absurd (false≢true (sym h))
chain d e f h k = kinds.chain (kind_rank d) (kind_rank e) (kind_rank f) h k

pub order : IsStrictWeakOrder comes_before
order = record { one_way = λ p q h. one_way p.0 q.0 h; chain = λ p q r h k. chain p.0 q.0 r.0 h k }

abbrev Pair : Type 0
Pair = Document × Document

pub by_both : (a b : Bool) → (not a && not b) ≡ true → (a ≡ false) × (b ≡ false)
by_both false false h = (refl, refl)
by_both false true h = absurd (false≢true h)
by_both true b h = absurd (false≢true h)

of_both : (a b : Bool) → a ≡ false → b ≡ false → (not a && not b) ≡ true
of_both false false h k = refl
of_both false true h k = absurd (false≢true (sym k))
of_both true b h k = absurd (false≢true (sym h))

self_false : (b : Bool) → (b ≡ true → b ≡ false) → b ≡ false
self_false false h = refl
self_false true h = h refl

itself : (p : Pair) → ties comes_before p p ≡ true
itself p = let not_before = self_false (comes_before p p) (order.one_way p p) in of_both (comes_before p p) (comes_before p p) not_before not_before

filter_yes : (t : Pair → Bool) (x : Pair) (xs : List Pair) → t x ≡ true → filter t (x ∷ xs) ≡ x ∷ filter t xs
filter_yes t x xs h = rw h refl

filter_not : (t : Pair → Bool) (x : Pair) (xs : List Pair) → t x ≡ false → filter t (x ∷ xs) ≡ filter t xs
filter_not t x xs h = rw h refl

passes_at : (t : Pair → Bool) (x : Pair) (xs : List Pair) (b : Bool) → t x ≡ b → (a : Pair) (rest : List Pair) → filter t (x ∷ xs) ≡ a ∷ rest → ((rest : List Pair) → filter t xs ≡ a ∷ rest → (j : ℕ) × (j < length xs) × (t (get_or xs j a) ≡ true))
    → (j : ℕ) × (j < length (x ∷ xs)) × (t (get_or (x ∷ xs) j a) ≡ true)
passes_at t x xs true h a rest e more = (zero, omega arith, h)
passes_at t x xs false h a rest e more = let (j, less, is) = more rest (sym (filter_not t x xs h) ∙ e) in (suc j, omega arith, is)

some_passes : (t : Pair → Bool) (xs : List Pair) (a : Pair) (rest : List Pair) → filter t xs ≡ a ∷ rest → (j : ℕ) × (j < length xs) × (t (get_or xs j a) ≡ true)
some_passes t [] a rest e = absurd (cc)
some_passes t (x ∷ xs) a rest e = passes_at t x xs (t x) refl a rest e (λ r h. some_passes t xs a r h)

abbrev Sorts : List Pair → Type 0
Sorts xs = IsSortedBy comes_before xs

abbrev Alike : List Pair → List Pair → Type 0
Alike xs ys = (p : Pair) → filter (ties comes_before p) xs ≡ filter (ties comes_before p) ys

-- the first of a list that is sorted comes after nothing that ties with a member
not_after : (x y : Pair) (ys : List Pair) → Sorts (y ∷ ys) → (rest : List Pair) → filter (ties comes_before x) (y ∷ ys) ≡ x ∷ rest → comes_before x y ≡ false
not_after x y ys up rest e =
    let (j, less, tie) = some_passes (ties comes_before x) (y ∷ ys) x rest e in
    let (one, two) = by_both (comes_before x (get_or (y ∷ ys) j x)) (comes_before (get_or (y ∷ ys) j x) x) tie in
    order.chain x (get_or (y ∷ ys) j x) y one (sorted_far comes_before order (y ∷ ys) up 0 j x (omega arith) less)

first_same : (x y : Pair) (xs ys : List Pair) → x ∷ xs ≡ y ∷ ys → x ≡ y
first_same x y xs ys e = ap (λ (l : List Pair). get_or l 0 x) e

heads : (x y : Pair) (xs ys : List Pair) → Sorts (x ∷ xs) → Sorts (y ∷ ys) → Alike (x ∷ xs) (y ∷ ys) → x ≡ y
heads x y xs ys up also alike =
    let mine = filter_yes (ties comes_before x) x xs (itself x) in
    let theirs = filter_yes (ties comes_before y) y ys (itself y) in
    let one = not_after x y ys also (filter (ties comes_before x) xs) (sym (alike x) ∙ mine) in
    let two = not_after y x xs up (filter (ties comes_before y) ys) (alike y ∙ theirs) in
    first_same x y (filter (ties comes_before x) xs) (filter (ties comes_before x) ys) (sym mine ∙ alike x ∙ filter_yes (ties comes_before x) y ys (of_both (comes_before x y) (comes_before y x) one two))

rest_sorts : (x : Pair) (xs : List Pair) → Sorts (x ∷ xs) → Sorts xs
rest_sorts x xs up k d low high =
    let h = up (k + 1) d (omega arith) (omega arith) in
    let one : get_or (x ∷ xs) (k + 1 + 1) d ≡ get_or xs (k + 1) d = ap (λ j. get_or (x ∷ xs) j d) (add-one (k + 1)) in
    let two : get_or (x ∷ xs) (k + 1) d ≡ get_or xs k d = ap (λ j. get_or (x ∷ xs) j d) (add-one k) in
    subst (λ p. comes_before (get_or xs (k + 1) d) p ≡ false) two (subst (λ p. comes_before p (get_or (x ∷ xs) (k + 1) d) ≡ false) one h)

rest_at : (t : Pair → Bool) (x : Pair) (xs ys : List Pair) (b : Bool) → t x ≡ b → filter t (x ∷ xs) ≡ filter t (x ∷ ys) → filter t xs ≡ filter t ys
rest_at t x xs ys true h e = append_cancel_left (x ∷ []) (filter t xs) (filter t ys) (sym (filter_yes t x xs h) ∙ e ∙ filter_yes t x ys h)
rest_at t x xs ys false h e = sym (filter_not t x xs h) ∙ e ∙ filter_not t x ys h

sorted_one : (xs ys : List Pair) → Sorts xs → Sorts ys → Alike xs ys → xs ≡ ys
sorted_one [] [] up also alike = refl
sorted_one [] (y ∷ ys) up also alike = let e = alike y ∙ filter_yes (ties comes_before y) y ys (itself y) in absurd (cc)
sorted_one (x ∷ xs) [] up also alike = let e = sym (alike x) ∙ filter_yes (ties comes_before x) x xs (itself x) in absurd (cc)
sorted_one (x ∷ xs) (y ∷ ys) up also alike =
    let same : x ≡ y = heads x y xs ys up also alike in
    let rest = sorted_one xs ys (rest_sorts x xs up) (rest_sorts y ys also)
    (λ p. rest_at (ties comes_before p) x xs ys (ties comes_before p x) refl (alike p ∙ ap (λ z. filter (ties comes_before p) (z ∷ ys)) (sym same))) in
    ap (λ z. z ∷ xs) same ∙ ap (λ l. y ∷ l) rest

one_sorting : (ps : List Pair) (ds es : List Document) → IsSorting ps ds → IsSorting ps es → ds ≡ es
one_sorting ps ds es (qs, up, stable, h) (rs, also, too, k) = h ∙ ap (map (λ q. q.1)) (sorted_one qs rs up also (λ p. stable p ∙ sym (too p))) ∙ sym k

one_sort_by : (b : Bool) (ps : List Pair) (r q : Result Document Fault) → MatchBool b ((ds : List Document) × IsSorting ps ds × (r ≡ Ok (array (items_of ds)))) (r ≡ Err WrongKind) → MatchBool b ((ds : List Document) × IsSorting ps ds × (q ≡ Ok (array (items_of ds)))) (q ≡ Err WrongKind) → r ≡ q
one_sort_by true ps r q (ds, is, h) (es, also, k) = h ∙ ap (λ l. Ok (array (items_of l))) (one_sorting ps ds es is also) ∙ sym k
one_sort_by false ps r q h k = h ∙ sym k

pub one_sort_of : (ps : List Pair) → IsOne (IsSortOf ps)
one_sort_of ps r q h k = one_sort_by (are_of_one_kind ps) ps r q h k

pub one_sort_alone : (d : Document) → IsOne (IsSortAlone d)
one_sort_alone (array ds) r q h k = one_sort_of (map (λ d. (d, d)) (listed ds)) r q h k
one_sort_alone _ r q h k = h ∙ sym k
