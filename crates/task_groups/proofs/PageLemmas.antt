-- Pages of a list whose rows rise.
use Rattle.std.proofs.Common.{◌≡◌, ℕ, zero, suc, ◌+◌, ◌<◌, ◌≤◌, Bool, true, false, List, [], ◌∷◌, ◌++◌, length, take, drop, get_or, Option, Some, None, refl, sym, ◌∙◌, ap, subst, arith, nat_lt, nat_le, length-append}
use Rattle.std.specs.Prelude.{filter, All, slice_get, ◌-◌}
use Rattle.std.specs.List.{AllPairs, last_or}
use Rattle.std.specs.Option.{ForSome}
use Rattle.std.specs.List.Sorted.{IsNonDecreasingBy}
use Rattle.std.proofs.lemmas.Bool.{ltb-true, ltb-false, leb-true, leb-false, lt-ltb, le-ltb}
use Rattle.std.proofs.lemmas.List.Elements.{All-cons, All-head, All-tail, All-take, All-filter, All-weaker, filter_passes}
use Rattle.task_groups.specs.Pages.{rows_after, page_rows, next_token, pages}

-- ---- what comes after a token

filter-whole : (t : ℕ) (xs : List ℕ) → All (λ x. t < x) xs → filter (λ x. nat_lt t x) xs ≡ xs
filter-whole t [] all = refl
filter-whole t (x ∷ xs) all =
    let above : t < x = All-head (λ y. t < y) x xs all in
    rw (lt-ltb t x above) (ap (λ (l : List ℕ). x ∷ l) (filter-whole t xs (All-tail (λ y. t < y) x xs all)))

-- from the place on at which the rows are above the token
pub after-place : (t : ℕ) (xs : List ℕ) (i : ℕ) → i ≤ length xs → ((k d : ℕ) → k < i → nat_le (get_or xs k d) t ≡ true) → ((k d : ℕ) → i ≤ k → k < length xs → nat_le (get_or xs k d) t ≡ false) → drop i xs ≡ rows_after (Some t) xs
after-place t [] zero within below above = refl
after-place t [] (suc i) within below above = absurd (omega arith)
after-place t (x ∷ xs) zero within below above = sym (filter-whole t (x ∷ xs) (λ k d inside. leb-false (get_or (x ∷ xs) k d) t (above k d (omega arith) inside)))
after-place t (x ∷ xs) (suc i) within below above =
    let low : x ≤ t = leb-true x t (below 0 0 (omega arith)) in
    rw (le-ltb t x low) (after-place t xs i (omega arith) (λ k d less. below (suc k) d (omega arith)) (λ k d from inside. above (suc k) d (omega arith) (omega arith)))

-- all rows are above a token
abbrev Above : Option ℕ → List ℕ → Type 0
Above None xs = Unit {0}
Above (Some t) xs = All (λ x. t < x) xs

after-whole : (after : Option ℕ) (xs : List ℕ) → Above after xs → rows_after after xs ≡ xs
after-whole None xs above = refl
after-whole (Some t) xs above = filter-whole t xs above

after-empty : (after : Option ℕ) → [] ≡ rows_after after []
after-empty None = refl
after-empty (Some t) = refl

after-above : (after : Option ℕ) (xs : List ℕ) → Above after (rows_after after xs)
after-above None xs = tt
after-above (Some t) xs = All-weaker (λ x. nat_lt t x ≡ true) (λ x. t < x) (λ x is. ltb-true t x is) (filter (λ x. nat_lt t x) xs) (filter_passes (λ x. nat_lt t x) xs)

above-take : (k : ℕ) (after : Option ℕ) (xs : List ℕ) → Above after xs → Above after (take k xs)
above-take k None xs above = tt
above-take k (Some t) xs above = All-take (λ x. t < x) k xs above

-- ---- rows that rise, by recursion

abbrev Rises : List ℕ → Type 0
Rises [] = Unit {0}
Rises (x ∷ xs) = All (λ y. x < y) xs × Rises xs

rises : (xs : List ℕ) → AllPairs (λ x y. x < y) xs → Rises xs
rises [] p = tt
rises (x ∷ xs) p = ((λ k d inside. p 0 (suc k) d (omega arith) (omega arith)), rises xs (λ i j d lt inside. p (suc i) (suc j) d (omega arith) (omega arith)))

rises-take : (k : ℕ) (xs : List ℕ) → Rises xs → Rises (take k xs)
rises-take zero xs rise = tt
rises-take (suc k) [] rise = tt
rises-take (suc k) (x ∷ xs) rise = (All-take (λ y. x < y) k xs rise.0, rises-take k xs rise.1)

rises-filter : (test : ℕ → Bool) (xs : List ℕ) → Rises xs → Rises (filter test xs)
rises-filter test [] rise = tt
rises-filter test (x ∷ xs) rise = by (rises-filter test xs rise.1) (test x) refl where
  by : Rises (filter test xs) → (b : Bool) → test x ≡ b → Rises (filter test (x ∷ xs))
  by rest true is = rw is (All-filter test (λ y. x < y) xs rise.0, rest)
  by rest false is = rw is rest

rises-after : (after : Option ℕ) (xs : List ℕ) → Rises xs → Rises (rows_after after xs)
rises-after None xs rise = rise
rises-after (Some t) xs rise = rises-filter (λ x. nat_lt t x) xs rise

-- the last of rows that rise is not below the first
last-above : (x : ℕ) (ys : List ℕ) → All (λ y. x < y) ys → Rises ys → (t : ℕ) × ((last_or (Some x) ys ≡ Some t) × (x ≤ t))
last-above x [] above rise = (x, (refl, omega arith))
last-above x (y ∷ ys) above rise =
    let rest = last-above y ys rise.0 rise.1 in
    let first : x < y = All-head (λ z. x < z) y ys above in
    let upto : y ≤ rest.0 = rest.1.1 in
    (rest.0, (rest.1.0, omega arith))

-- ---- a page, and what comes behind it

split : (k : ℕ) (after : Option ℕ) (xs : List ℕ) → Rises xs → Above after xs → xs ≡ take k xs ++ rows_after (last_or after (take k xs)) xs
split zero after xs rise above = sym (after-whole after xs above)
split (suc k) after [] rise above = after-empty after
split (suc k) after (x ∷ xs) rise above =
    let rest = split k (Some x) xs rise.1 rise.0 in
    let last = last-above x (take k xs) (All-take (λ y. x < y) k xs rise.0) (rises-take k xs rise.1) in
    let P : Option ℕ → Type 0 = λ token. rows_after token (x ∷ xs) ≡ rows_after token xs in
    let skipped : rows_after (Some last.0) (x ∷ xs) ≡ rows_after (Some last.0) xs = rw (le-ltb last.0 x last.1.1) refl in
    let same : rows_after (last_or (Some x) (take k xs)) (x ∷ xs) ≡ rows_after (last_or (Some x) (take k xs)) xs = subst P (sym last.1.0) skipped in
    ap (λ (l : List ℕ). x ∷ l) (rest ∙ ap (λ (l : List ℕ). take k xs ++ l) (sym same))

-- a token that is not before another
abbrev AtLeast : Option ℕ → Option ℕ → Type 0
AtLeast None later = Unit {0}
AtLeast (Some t) None = ⊥
AtLeast (Some t) (Some u) = t ≤ u

twice : (t u : ℕ) (xs : List ℕ) → t ≤ u → filter (λ x. nat_lt u x) (filter (λ x. nat_lt t x) xs) ≡ filter (λ x. nat_lt u x) xs
twice t u [] upto = refl
twice t u (x ∷ xs) upto = by (twice t u xs upto) (nat_lt t x) (nat_lt u x) refl refl where
  by : filter (λ y. nat_lt u y) (filter (λ y. nat_lt t y) xs) ≡ filter (λ y. nat_lt u y) xs → (a b : Bool) → nat_lt t x ≡ a → nat_lt u x ≡ b → filter (λ y. nat_lt u y) (filter (λ y. nat_lt t y) (x ∷ xs)) ≡ filter (λ y. nat_lt u y) (x ∷ xs)
  by rest true true is also = rw is (rw also (ap (λ (l : List ℕ). x ∷ l) rest))
  by rest true false is also = rw is (rw also rest)
  by rest false true is also = absurd (let low = ltb-false t x is in let high = ltb-true u x also in omega arith)
  by rest false false is also = rw is (rw also rest)

again : (after later : Option ℕ) (xs : List ℕ) → AtLeast after later → rows_after later (rows_after after xs) ≡ rows_after later xs
again None later xs upto = refl
again (Some t) None xs upto = absurd upto
again (Some t) (Some u) xs upto = twice t u xs upto

least : (after : Option ℕ) (ys : List ℕ) → Rises ys → Above after ys → AtLeast after (last_or after ys)
least None ys rise above = tt
least (Some t) [] rise above = omega arith
least (Some t) (y ∷ ys) rise above =
    let last = last-above y ys rise.0 rise.1 in
    let first : t < y = All-head (λ z. t < z) y ys above in
    let upto : y ≤ last.0 = last.1.1 in
    let here : t ≤ last.0 = omega arith in
    let P : Option ℕ → Type 0 = λ token. AtLeast (Some t) token in
    subst P (sym last.1.0) here

pub page-and-rest : (after : Option ℕ) (limit : ℕ) (rows : List ℕ) → AllPairs (λ x y. x < y) rows → rows_after after rows ≡ page_rows after limit rows ++ rows_after (next_token after limit rows) rows
page-and-rest after limit rows rise =
    let rest = rows_after after rows in
    let rising : Rises (rows_after after rows) = rises-after after rows (rises rows rise) in
    let above : Above after (rows_after after rows) = after-above after rows in
    let upto : AtLeast after (last_or after (take limit (rows_after after rows))) =
    least after (take limit rest) (rises-take limit rest rising) (above-take limit after rest above) in
    split limit after rest rising above
    ∙ ap (λ (l : List ℕ). take limit rest ++ l) (again after (last_or after (take limit rest)) rows upto)

-- ---- all pages

nothing : (xs : List ℕ) → length xs ≤ 0 → [] ≡ xs
nothing [] none = refl
nothing (x ∷ xs) none = absurd (omega arith)

takes-some : (k : ℕ) (xs : List ℕ) → 0 < k → 0 < length xs → 0 < length (take k xs)
takes-some zero xs some there = absurd (omega arith)
takes-some (suc k) [] some there = absurd (omega arith)
takes-some (suc k) (x ∷ xs) some there = omega arith

whole-after : (count limit : ℕ) (after : Option ℕ) (rows : List ℕ) → AllPairs (λ x y. x < y) rows → 0 < limit → length (rows_after after rows) ≤ count → pages count after limit rows ≡ rows_after after rows
whole-after zero limit after rows rise some few = nothing (rows_after after rows) few
whole-after (suc count) limit after rows rise some few =
    let law = page-and-rest after limit rows rise in
    let page = page_rows after limit rows in
    let behind = rows_after (next_token after limit rows) rows in
    let long : length (rows_after after rows) ≡ length page + length behind = ap length law ∙ length-append page behind in
    let full : 0 < length (rows_after after rows) → 0 < length page = takes-some limit (rows_after after rows) some in
    let fewer : length behind ≤ count = fewer-left (length (rows_after after rows)) (length page) (length behind) count long full few in
    ap (λ (l : List ℕ). page ++ l) (whole-after count limit (next_token after limit rows) rows rise some fewer) ∙ sym law
  where
    fewer-left : (all page behind count : ℕ) → all ≡ page + behind → (0 < all → 0 < page) → all ≤ suc count → behind ≤ count
    fewer-left zero page behind count long full few = omega arith
    fewer-left (suc all) page behind count long full few = let some_ = full (omega arith) in omega arith

length-filter_le : (test : ℕ → Bool) (xs : List ℕ) → length (filter test xs) ≤ length xs
length-filter_le test [] = omega arith
length-filter_le test (x ∷ xs) = by (length-filter_le test xs) (test x) refl where
  by : length (filter test xs) ≤ length xs → (b : Bool) → test x ≡ b → length (filter test (x ∷ xs)) ≤ length (x ∷ xs)
  by rest true is = rw is (omega arith)
  by rest false is = rw is (omega arith)

after-few : (after : Option ℕ) (rows : List ℕ) → length (rows_after after rows) ≤ length rows
after-few None rows = omega arith
after-few (Some t) rows = length-filter_le (λ x. nat_lt t x) rows

pub pages-whole : (count limit : ℕ) (after : Option ℕ) (rows : List ℕ) → AllPairs (λ x y. x < y) rows → 0 < limit → length rows ≤ count → pages count after limit rows ≡ rows_after after rows
pages-whole count limit after rows rise some few = let less = after-few after rows in whole-after count limit after rows rise some (omega arith)

-- rows that rise do not fall
pub rises-fall_not : (xs : List ℕ) → AllPairs (λ x y. x < y) xs → IsNonDecreasingBy (λ (y : ℕ). y) xs
rises-fall_not xs rise i j d upto inside = by (nat_lt i j) refl where
  by : (b : Bool) → nat_lt i j ≡ b → get_or xs i d ≤ get_or xs j d
  by true is = let less : get_or xs i d < get_or xs j d = rise i j d (ltb-true i j is) inside in omega arith
  by false is =
      let same : i ≡ j = (let no_ = ltb-false i j is in omega arith) in
      let P : ℕ → Type 0 = λ k. get_or xs i d ≤ get_or xs k d in
      let here : get_or xs i d ≤ get_or xs i d = omega arith in
      subst P same here

-- where the last of rows that rise is below a row, all are
below-last : (row x : ℕ) (xs : List ℕ) → Rises (x ∷ xs) → ForSome (last_or (Some x) xs) (λ held. held < row) → All (λ y. y < row) (x ∷ xs)
below-last row x [] rise last = All-cons (λ y. y < row) x [] (last x refl) (λ k d inside. absurd (omega arith))
below-last row x (y ∷ ys) rise last =
    let rest = below-last row y ys rise.1 last in
    let first : x < y = All-head (λ z. x < z) y ys rise.0 in
    let next : y < row = All-head (λ z. z < row) y ys rest in
    All-cons (λ z. z < row) x (y ∷ ys) (omega arith) rest

pub all-below : (row : ℕ) (xs : List ℕ) → AllPairs (λ x y. x < y) xs → ForSome (last_or None xs) (λ held. held < row) → All (λ y. y < row) xs
all-below row [] rise last = λ k d inside. absurd (omega arith)
all-below row (x ∷ xs) rise last = below-last row x xs (rises (x ∷ xs) rise) last

-- the last row stands at the last place
pub get-last : (xs : List ℕ) → slice_get xs (length xs - 1) ≡ last_or None xs
get-last [] = refl
get-last (x ∷ []) = refl
get-last (x ∷ y ∷ ys) =
    let e : length (x ∷ y ∷ ys) - 1 ≡ suc (length (y ∷ ys) - 1) = omega arith in
    rw e (get-last (y ∷ ys))
