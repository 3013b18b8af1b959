-- What a sort says of the elements themselves, it says of what they stand for.
use Rattle.std.proofs.Common.{◌≡◌, ◌+◌, Bool, true, false, not, ◌&&◌, List, [], ◌∷◌, length, get_or, map, Vec, Global, Result, Ok, Err, IfOk, refl, sym, ap, ap₂, subst, ◌∙◌, arith}
use Rattle.std.proofs.lemmas.List.{get_or-map, length-map}
use Rattle.std.specs.Bool.{MatchBool}
use Rattle.std.specs.Cmp.{IsStrictWeakOrder}
use Rattle.std.specs.List.{filter}
use Rattle.std.specs.List.Sorted.{IsSortedBy, IsStableBy, ties}
use Rattle.farm_text.specs.Document.{Document, array, items_of}
use Rattle.farm_text.specs.Doc.{document, documents}
use Rattle.farm_text.specs.declared.doc.Doc.{Doc}
use Rattle.farm_text.specs.declared.doc.Doc.TheVariants.{Null}
use Rattle.jsone_values.specs.declared.faults.Fault.{Fault}
use Rattle.jsone_values.specs.declared.faults.Fault.TheVariants.{WrongKind}
use Rattle.jsone_values.specs.declared.faults.Stop.{Stop}
use Rattle.jsone_values.specs.declared.faults.Stop.TheVariants.{Fault as stop_fault, NoMemory as no_memory}
use Rattle.jsone_values.specs.Meets.{Meets}
use Rattle.jsone_render.specs.Answers.{pairs_of}
use Rattle.jsone_render.specs.Sorting.{comes_before, are_of_one_kind, IsSorting, IsSortOf, IsSortAlone}
use Rattle.jsone_render.proofs.KindLemmas.{listed-items_of}
use Rattle.jsone_render.proofs.OneSorting.{order, by_both}

filter_seen_at : {X Y : Type 0} (view : X → Y) (t : Y → Bool) (x : X) (xs : List X) (b : Bool) → t (view x) ≡ b → filter t (map view xs) ≡ map view (filter (λ y. t (view y)) xs)
    → filter t (map view (x ∷ xs)) ≡ map view (filter (λ y. t (view y)) (x ∷ xs))
filter_seen_at view t x xs true h more = rw h (ap (λ l. view x ∷ l) more)
filter_seen_at view t x xs false h more = rw h more

filter_seen : {X Y : Type 0} (view : X → Y) (t : Y → Bool) (xs : List X) → filter t (map view xs) ≡ map view (filter (λ y. t (view y)) xs)
filter_seen view t [] = refl
filter_seen view t (x ∷ xs) = filter_seen_at view t x xs (t (view x)) refl (filter_seen view t xs)

filter_alike_at : {X : Type 0} (s t : X → Bool) (x : X) (xs : List X) (b : Bool) → s x ≡ b → t x ≡ b → filter s xs ≡ filter t xs → filter s (x ∷ xs) ≡ filter t (x ∷ xs)
filter_alike_at s t x xs true h k more = rw (h, k) (ap (λ l. x ∷ l) more)
filter_alike_at s t x xs false h k more = rw (h, k) more

filter_alike : {X : Type 0} (s t : X → Bool) (xs : List X) → ((x : X) → s x ≡ t x) → filter s xs ≡ filter t xs
filter_alike s t [] same = refl
filter_alike s t (x ∷ xs) same = filter_alike_at s t x xs (t x) (same x) refl (filter_alike s t xs same)

first_passes_at : {X : Type 0} (t : X → Bool) (x : X) (xs : List X) (b : Bool) → t x ≡ b → (a : X) (rest : List X) → filter t (x ∷ xs) ≡ a ∷ rest → (filter t xs ≡ a ∷ rest → t a ≡ true) → t a ≡ true
first_passes_at t x xs true h a rest e more =
    let here : x ∷ filter t xs ≡ a ∷ rest = rw h at e in
    let same : x ≡ a = cc in
    subst (λ y. t y ≡ true) same h
first_passes_at t x xs false h a rest e more = let there : filter t xs ≡ a ∷ rest = rw h at e in more there

first_passes : {X : Type 0} (t : X → Bool) (xs : List X) (a : X) (rest : List X) → filter t xs ≡ a ∷ rest → t a ≡ true
first_passes t [] a rest e = absurd (cc)
first_passes t (x ∷ xs) a rest e = first_passes_at t x xs (t x) refl a rest e (λ h. first_passes t xs a rest h)

same_tests : (b e : Bool) → (b ≡ false → e ≡ false) → (e ≡ false → b ≡ false) → b ≡ e
same_tests false e h k = sym (h refl)
same_tests true false h k = k refl
same_tests true true h k = refl

-- what ties with one of two that tie, ties with the other
ties_alike : {Y : Type 0} (lt : Y → Y → Bool) → IsStrictWeakOrder lt → (p a : Y) → ties lt p a ≡ true → (y : Y) → ties lt p y ≡ ties lt a y
ties_alike lt o p a tie y =
    let (one, two) = by_both (lt p a) (lt a p) tie in
    let after : lt p y ≡ lt a y = same_tests (lt p y) (lt a y) (λ h. o.chain a p y two h) (λ h. o.chain p a y one h) in
    let before : lt y p ≡ lt y a = same_tests (lt y p) (lt y a) (λ h. o.chain y p a h one) (λ h. o.chain y a p h two) in
    ap₂ (λ (b e : Bool). not b && not e) after before

sorted_seen : {X Y : Type 0} (view : X → Y) (lt : Y → Y → Bool) (xs : List X) (e : X) → IsSortedBy (λ x y. lt (view x) (view y)) xs → IsSortedBy lt (map view xs)
sorted_seen view lt xs e up k d low high =
    let size : length (map view xs) ≡ length xs = length-map xs view in
    let one : get_or (map view xs) (k + 1) d ≡ view (get_or xs (k + 1) e) = get_or-map view xs (k + 1) e d (omega arith) in
    let two : get_or (map view xs) k d ≡ view (get_or xs k e) = get_or-map view xs k e d (omega arith) in
    let is : lt (view (get_or xs (k + 1) e)) (view (get_or xs k e)) ≡ false = up k e low (omega arith) in
    ap₂ lt one two ∙ is

-- where an element ties with p, its own ties are those of p; where none does, nothing is left
stable_at : {X Y : Type 0} (view : X → Y) (lt : Y → Y → Bool) → IsStrictWeakOrder lt → (xs ys : List X) → IsStableBy (λ x y. lt (view x) (view y)) xs ys → (p : Y) (here there : List X)
    → filter (λ x. ties lt p (view x)) xs ≡ here → filter (λ x. ties lt p (view x)) ys ≡ there → filter (λ x. ties lt p (view x)) ys ≡ filter (λ x. ties lt p (view x)) xs
stable_at view lt o xs ys stable p [] [] h k = k ∙ sym h
stable_at {X} view lt o xs ys stable p (a ∷ rest) there h k =
    let t : X → Bool = λ x. ties lt p (view x) in
    let mine : (x : X) → t x ≡ ties (λ x y. lt (view x) (view y)) a x = λ x. ties_alike lt o p (view a) (first_passes t xs a rest h) (view x) in
    filter_alike t (ties (λ x y. lt (view x) (view y)) a) ys mine ∙ stable a ∙ sym (filter_alike t (ties (λ x y. lt (view x) (view y)) a) xs mine)
stable_at {X} view lt o xs ys stable p [] (a ∷ rest) h k =
    let t : X → Bool = λ x. ties lt p (view x) in
    let mine : (x : X) → t x ≡ ties (λ x y. lt (view x) (view y)) a x = λ x. ties_alike lt o p (view a) (first_passes t ys a rest k) (view x) in
    filter_alike t (ties (λ x y. lt (view x) (view y)) a) ys mine ∙ stable a ∙ sym (filter_alike t (ties (λ x y. lt (view x) (view y)) a) xs mine)

stable_seen : {X Y : Type 0} (view : X → Y) (lt : Y → Y → Bool) → IsStrictWeakOrder lt → (xs ys : List X) → IsStableBy (λ x y. lt (view x) (view y)) xs ys → IsStableBy lt (map view xs) (map view ys)
stable_seen view lt o xs ys stable p =
    filter_seen view (ties lt p) ys ∙ ap (map view) (stable_at view lt o xs ys stable p (filter (λ x. ties lt p (view x)) xs) (filter (λ x. ties lt p (view x)) ys) refl refl) ∙ sym (filter_seen view (ties lt p) xs)

abbrev pub Pair : Type 0
Pair = Doc × Doc

abbrev pub pair_of : Pair → Document × Document
pair_of p = (document p.0, document p.1)

-- the order of pairs of documents, at pairs of `Doc`s
abbrev pub pair_before : Pair → Pair → Bool
pair_before p q = comes_before (pair_of p) (pair_of q)

pub pair_order : IsStrictWeakOrder pair_before
pair_order = record { one_way = λ p q h. order.one_way (pair_of p) (pair_of q) h; chain = λ p q r h k. order.chain (pair_of p) (pair_of q) (pair_of r) h k }

pub sorting_made : {E : Type 0} (ps qs : List Pair) (r : Result (Vec Doc Global) E) → IsSortedBy pair_before qs → IsStableBy pair_before ps qs → IfOk r (λ v. documents v.items ≡ map (λ q. q.1) (pairs_of qs)) → IfOk r (λ v. IsSorting (pairs_of ps) (documents v.items))
sorting_made ps qs (Ok v) up stable h = (pairs_of qs, sorted_seen pair_of comes_before qs (Null, Null) up, stable_seen pair_of comes_before order ps qs stable, h)
sorting_made ps qs (Err e) up stable h = tt

sort_by_kind : (b : Bool) (ps : List (Document × Document)) (r : Result Document Fault) → b ≡ are_of_one_kind ps → MatchBool b ((ds : List Document) × IsSorting ps ds × (r ≡ Ok (array (items_of ds)))) (r ≡ Err WrongKind) → IsSortOf ps r
sort_by_kind b ps r h m = subst (λ (x : Bool). MatchBool x ((ds : List Document) × IsSorting ps ds × (r ≡ Ok (array (items_of ds)))) (r ≡ Err WrongKind)) h m

pub not_sorted : (ps : List (Document × Document)) → false ≡ are_of_one_kind ps → IsSortOf ps (Err WrongKind)
not_sorted ps h = sort_by_kind false ps (Err WrongKind) h refl

pub sorted_as : (ps : List (Document × Document)) (d : Document) (ds : List Document) → true ≡ are_of_one_kind ps → IsSorting ps ds → d ≡ array (items_of ds) → IsSortOf ps (Ok d)
sorted_as ps d ds h sorts is = sort_by_kind true ps (Ok d) h (ds, sorts, ap (λ x. Ok x) is)

-- an outcome of one kind is one of another
meets_through : (Is Also : Result Document Fault → Type 0) (r : Result Doc Stop) → ((q : Result Document Fault) → Is q → Also q) → Meets Is r → Meets Also r
meets_through Is Also (Ok d) leads h = leads (Ok (document d)) h
meets_through Is Also (Err (stop_fault f)) leads h = leads (Err f) h
meets_through Is Also (Err no_memory) leads h = tt

pub sorted_alone : (d : Document) (ds : List Document) (ps : List (Document × Document)) (r : Result Doc Stop) → d ≡ array (items_of ds) → ps ≡ map (λ x. (x, x)) ds → Meets (IsSortOf ps) r → Meets (IsSortAlone d) r
sorted_alone d ds ps r is made h =
    meets_through (IsSortOf ps) (IsSortAlone d) r
    (λ q sorts. subst (λ y. IsSortAlone y q) (sym is) (subst (λ l. IsSortOf l q) (made ∙ ap (map (λ x. (x, x))) (sym (listed-items_of ds))) sorts)) h
