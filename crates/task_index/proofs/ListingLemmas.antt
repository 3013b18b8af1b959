-- The places of the tasks of a list.
use Rattle.std.proofs.Common.{◌≡◌, ℕ, zero, suc, ◌+◌, ◌<◌, ◌≤◌, Bool, true, false, List, [], ◌∷◌, ◌++◌, map, length, take, drop, get_or, filter, nat_lt, nat_le, slice_get, Option, Some, refl, sym, ◌∙◌, ap, arith}
use Rattle.std.specs.Prelude.{All}
use Rattle.std.specs.List.{AllPairs}
use Rattle.std.specs.List.Sorted.{IsNonDecreasingBy}
use Rattle.std.proofs.lemmas.Bool.{le-leb, leb-true, ltb-true, ltb-false}
use Rattle.std.proofs.lemmas.List.{length-map, map-append, map_more, take-map}
use Rattle.std.proofs.lemmas.List.Elements.{All-cons, All-filter, All-take, All-weaker}
use Rattle.std.proofs.lemmas.List.Kept.{AllPairs-cons}
use Rattle.run_states.specs.Rows.{Row}
use Rattle.task_index.specs.declared.lists.TaskList.{TaskList}
use Rattle.task_index.specs.Lists.{is_listed, listed}
use Rattle.task_index.specs.Listing.{places_from, places_of, starting_at}

pub not-below : (a b : ℕ) → b < a → nat_le a b ≡ false
not-below a b less = by (nat_le a b) refl where
  by : (t : Bool) → nat_le a b ≡ t → nat_le a b ≡ false
  by false is = is
  by true is = let le = leb-true a b is in absurd (omega arith)

-- ---- the places rise, and are places of the tasks

from-on : (test : Row → Bool) (from : ℕ) (rows : List Row) → All (λ p. from ≤ p) (places_from test from rows)
from-on test from [] = λ k d inside. absurd (omega arith)
from-on test from (row ∷ rows) = by (All-weaker (λ p. from + 1 ≤ p) (λ p. from ≤ p) (λ p le. omega arith) (places_from test (from + 1) rows) (from-on test (from + 1) rows)) (test row) refl where
  by : All (λ p. from ≤ p) (places_from test (from + 1) rows) → (b : Bool) → test row ≡ b → All (λ p. from ≤ p) (places_from test from (row ∷ rows))
  by rest true is = rw is (All-cons (λ p. from ≤ p) from (places_from test (from + 1) rows) (omega arith) rest)
  by rest false is = rw is rest

pub places-rise : (test : Row → Bool) (from : ℕ) (rows : List Row) → AllPairs (λ x y. x < y) (places_from test from rows)
places-rise test from [] = λ i j d less inside. absurd (omega arith)
places-rise test from (row ∷ rows) = by (places-rise test (from + 1) rows) (All-weaker (λ p. from + 1 ≤ p) (λ p. from < p) (λ p le. omega arith) (places_from test (from + 1) rows) (from-on test (from + 1) rows)) (test row) refl where
  by : AllPairs (λ x y. x < y) (places_from test (from + 1) rows) → All (λ p. from < p) (places_from test (from + 1) rows) → (b : Bool) → test row ≡ b → AllPairs (λ x y. x < y) (places_from test from (row ∷ rows))
  by rest above true is = rw is (AllPairs-cons (λ x y. x < y) from (places_from test (from + 1) rows) above rest)
  by rest above false is = rw is rest

places-before : (test : Row → Bool) (from end : ℕ) (rows : List Row) → end ≡ from + length rows → All (λ p. p < end) (places_from test from rows)
places-before test from end [] at = λ k d inside. absurd (omega arith)
places-before test from end (row ∷ rows) at = by (places-before test (from + 1) end rows (omega arith)) (test row) refl where
  by : All (λ p. p < end) (places_from test (from + 1) rows) → (b : Bool) → test row ≡ b → All (λ p. p < end) (places_from test from (row ∷ rows))
  by rest true is = rw is (All-cons (λ p. p < end) from (places_from test (from + 1) rows) (omega arith) rest)
  by rest false is = rw is rest

pub places-within : (list : TaskList) (rows : List Row) → All (λ p. p < length rows) (places_of list rows)
places-within list rows = places-before (is_listed list) 0 (length rows) rows (omega arith)

pub page-within : (list : TaskList) (rows : List Row) (start limit : ℕ) → All (λ p. p < length rows) (take limit (starting_at start (places_of list rows)))
page-within list rows start limit =
    All-take (λ p. p < length rows) limit (starting_at start (places_of list rows))
    (All-filter (λ p. nat_le start p) (λ p. p < length rows) (places_of list rows) (places-within list rows))

-- ---- the places from one on

pub whole-from : (start : ℕ) (places : List ℕ) → All (λ p. start ≤ p) places → starting_at start places ≡ places
whole-from start [] all = refl
whole-from start (p ∷ places) all =
    let first : start ≤ p = all 0 0 (omega arith) in
    rw (le-leb start p first) (ap (λ (ps : List ℕ). p ∷ ps) (whole-from start places (λ k d inside. all (suc k) d (omega arith))))

-- those of all tasks are those of the tasks behind the first ones
from-drop : (test : Row → Bool) (start from k : ℕ) (rows : List Row) → start ≡ from + k → starting_at start (places_from test from rows) ≡ places_from test start (drop k rows)
from-drop test start from zero rows at =
    let same : from ≡ start = omega arith in
    whole-from start (places_from test from rows) (All-weaker (λ p. from ≤ p) (λ p. start ≤ p) (λ p le. omega arith) (places_from test from rows) (from-on test from rows))
    ∙ ap (λ n. places_from test n rows) same
from-drop test start from (suc k) [] at = refl
from-drop test start from (suc k) (row ∷ rows) at = by (from-drop test start (from + 1) k rows (omega arith)) (test row) refl where
  by : starting_at start (places_from test (from + 1) rows) ≡ places_from test start (drop k rows) → (b : Bool) → test row ≡ b → starting_at start (places_from test from (row ∷ rows)) ≡ places_from test start (drop (suc k) (row ∷ rows))
  by rest true is = rw is (rw (not-below start from (omega arith)) rest)
  by rest false is = rw is rest

-- ---- the tasks at the places

get-drop : (start k n : ℕ) (all : List Row) → n ≡ start + k → slice_get all n ≡ slice_get (drop start all) k
get-drop zero k n all at = let same : n ≡ k = omega arith in ap (slice_get all) same
get-drop (suc start) k n [] at = refl
get-drop (suc start) k zero (r ∷ all) at = absurd (omega arith)
get-drop (suc start) k (suc n) (r ∷ all) at = get-drop start k n all (omega arith)

rows-at : (test : Row → Bool) (all : List Row) (from : ℕ) (rows : List Row) → ((k n : ℕ) → n ≡ from + k → slice_get all n ≡ slice_get rows k) → map (slice_get all) (places_from test from rows) ≡ map Some (filter test rows)
rows-at test all from [] same = refl
rows-at test all from (row ∷ rows) same = by (rows-at test all (from + 1) rows (λ k n at. same (suc k) n (omega arith))) (test row) refl where
  by : map (slice_get all) (places_from test (from + 1) rows) ≡ map Some (filter test rows) → (b : Bool) → test row ≡ b → map (slice_get all) (places_from test from (row ∷ rows)) ≡ map Some (filter test (row ∷ rows))
  by rest true is =
      rw is
      (ap (λ (o : Option Row). o ∷ map (slice_get all) (places_from test (from + 1) rows)) (same zero from (omega arith))
      ∙ ap (λ (os : List (Option Row)). Some row ∷ os) rest)
  by rest false is = rw is rest

-- at the places from one on are the tasks of the list behind the first ones
listed-at : (list : TaskList) (rows : List Row) (start : ℕ) → map (slice_get rows) (starting_at start (places_of list rows)) ≡ map Some (listed list (drop start rows))
listed-at list rows start =
    ap (map (slice_get rows)) (from-drop (is_listed list) start 0 start rows (omega arith))
    ∙ rows-at (is_listed list) rows start (drop start rows) (λ k n at. get-drop start k n rows at)

-- and one place more
pub found-more : (rows : List Row) (places : List ℕ) (i : ℕ) (found new : List Row) (row : Row) → i < length places → slice_get rows (get_or places i 0) ≡ Some row → new ≡ found ++ row ∷ []
    → map Some found ≡ map (slice_get rows) (take i places) → map Some new ≡ map (slice_get rows) (take (i + 1) places)
found-more rows places i found new row less at is so_far =
    ap (map Some) is
    ∙ (map-append Some found (row ∷ [])
    ∙ (ap (λ (os : List (Option Row)). os ++ Some row ∷ []) so_far
    ∙ (ap (λ (o : Option Row). map (slice_get rows) (take i places) ++ o ∷ []) (sym at) ∙ sym (map_more (slice_get rows) places i 0 less))))

same-items : (xs ys : List Row) → map Some xs ≡ map Some ys → xs ≡ ys
same-items [] [] same = refl
same-items [] (y ∷ ys) same = cc
same-items (x ∷ xs) [] same = cc
same-items (x ∷ xs) (y ∷ ys) same =
    let first : x ≡ y = cc in
    let rest : map Some xs ≡ map Some ys = cc in
    ap (λ (r : Row). r ∷ xs) first ∙ ap (λ (rs : List Row). y ∷ rs) (same-items xs ys rest)

-- so many of the tasks of a list, behind the first ones
pub record IsListedPage (list : TaskList) (rows found : List Row) (start limit : ℕ) (more : Bool) : Type 0 where
  pub page : found ≡ take limit (listed list (drop start rows))
  pub more_is : more ≡ nat_lt limit (length (listed list (drop start rows)))

-- the tasks at a page of the places
pub listed-page : (list : TaskList) (rows found : List Row) (start limit : ℕ) (more : Bool) (places : List ℕ) → places ≡ take limit (starting_at start (places_of list rows)) → more ≡ nat_lt limit (length (starting_at start (places_of list rows)))
    → map Some found ≡ map (slice_get rows) places → IsListedPage list rows found start limit more
listed-page list rows found start limit more places are more_are at =
    let all : List ℕ = starting_at start (places_of list rows) in
    let rest : List Row = listed list (drop start rows) in
    let same = listed-at list rows start in
    let long : length all ≡ length rest =
    sym (length-map all (slice_get rows)) ∙ (ap length same ∙ length-map rest Some) in
    record {
      page =
          same-items found (take limit rest)
          (at ∙ (ap (map (slice_get rows)) are ∙ (sym (take-map (slice_get rows) limit all) ∙ (ap (take limit) same ∙ take-map Some limit rest))));
      more_is = more_are ∙ ap (nat_lt limit) long;
    }

-- ---- the first place that is not before one

pub places-fall_not : (places : List ℕ) → AllPairs (λ x y. x < y) places → IsNonDecreasingBy (λ (p : ℕ). p) places
places-fall_not places rise i j d upto inside = by (nat_lt i j) refl where
  by : (b : Bool) → nat_lt i j ≡ b → get_or places i d ≤ get_or places j d
  by true is = let less : get_or places i d < get_or places j d = rise i j d (ltb-true i j is) inside in omega arith
  by false is =
      let past = ltb-false i j is in
      let same : i ≡ j = omega arith in
      let at : get_or places i d ≡ get_or places j d = ap (λ n. get_or places n d) same in
      omega arith

-- from the place on at which they are not before one
pub from-count : (start : ℕ) (places : List ℕ) (i : ℕ) → i ≤ length places → ((k d : ℕ) → k < i → nat_lt (get_or places k d) start ≡ true) → ((k d : ℕ) → i ≤ k → k < length places → nat_lt (get_or places k d) start ≡ false) → drop i places ≡ starting_at start places
from-count start [] zero within below above = refl
from-count start [] (suc i) within below above = absurd (omega arith)
from-count start (p ∷ places) zero within below above = sym (whole-from start (p ∷ places) (λ k d inside. ltb-false (get_or (p ∷ places) k d) start (above k d (omega arith) inside)))
from-count start (p ∷ places) (suc i) within below above =
    let low : p < start = ltb-true p start (below 0 0 (omega arith)) in
    rw (not-below start p low) (from-count start places i (omega arith) (λ k d less. below (suc k) d (omega arith)) (λ k d from inside. above (suc k) d (omega arith) (omega arith)))
