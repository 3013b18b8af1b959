-- Pages of a list whose tasks have ids of their own.
use Rattle.std.proofs.Common.{◌≡◌, ℕ, zero, suc, ◌+◌, ◌<◌, ◌≤◌, Bool, true, false, List, [], ◌∷◌, ◌++◌, map, length, take, drop, filter, bytes_eq, Option, Some, None, refl, sym, ◌∙◌, ap, arith, length-append}
use Rattle.std.specs.List.{AllByRecursion, last_or}
use Rattle.std.proofs.lemmas.List.{take-append-drop}
use Rattle.std.proofs.lemmas.Map.Keys.{IsDistinct-head, IsDistinct-tail}
use Rattle.std.proofs.lemmas.Slice.Eq.{bytes_eq-Decides}
use Rattle.run_states.specs.Rows.{Row}
use Rattle.task_index.specs.declared.lists.TaskList.{TaskList}
use Rattle.task_index.specs.Contents.{HaveOwnIds}
use Rattle.task_index.specs.Lists.{is_listed, listed, behind_id, behind, page_rows, next_token, pages}

-- ---- tasks with ids of their own, by recursion

-- no task of these has the id
abbrev Apart : List ℕ → List Row → Type 0
Apart id rows = AllByRecursion (λ (row : Row). bytes_eq id row.id ≡ false) rows

abbrev Own : List Row → Type 0
Own [] = Unit {0}
Own (row ∷ rows) = Apart row.id rows × Own rows

apart-ids : (id : List ℕ) (rows : List Row) → AllByRecursion (λ (other : List ℕ). bytes_eq id other ≡ false) (map (λ row. row.id) rows) → Apart id rows
apart-ids id [] all = tt
apart-ids id (row ∷ rows) all = (all.0, apart-ids id rows all.1)

own-ids : (rows : List Row) → HaveOwnIds rows → Own rows
own-ids [] own = tt
own-ids (row ∷ rows) own =
    let ids_of : List (List ℕ) = map (λ (r : Row). r.id) rows in
    (apart-ids row.id rows (IsDistinct-head bytes_eq row.id ids_of own), own-ids rows (IsDistinct-tail bytes_eq row.id ids_of own))

apart-filter : (test : Row → Bool) (id : List ℕ) (rows : List Row) → Apart id rows → Apart id (filter test rows)
apart-filter test id [] all = tt
apart-filter test id (row ∷ rows) all = by (apart-filter test id rows all.1) (test row) refl where
  by : Apart id (filter test rows) → (b : Bool) → test row ≡ b → Apart id (filter test (row ∷ rows))
  by rest true is = rw is (all.0, rest)
  by rest false is = rw is rest

own-filter : (test : Row → Bool) (rows : List Row) → Own rows → Own (filter test rows)
own-filter test [] own = tt
own-filter test (row ∷ rows) own = by (own-filter test rows own.1) (test row) refl where
  by : Own (filter test rows) → (b : Bool) → test row ≡ b → Own (filter test (row ∷ rows))
  by rest true is = rw is (apart-filter test row.id rows own.0, rest)
  by rest false is = rw is rest

apart-behind : (id token : List ℕ) (rows : List Row) → Apart id rows → Apart id (behind_id token rows)
apart-behind id token [] all = tt
apart-behind id token (row ∷ rows) all = by (apart-behind id token rows all.1) (bytes_eq row.id token) refl where
  by : Apart id (behind_id token rows) → (b : Bool) → bytes_eq row.id token ≡ b → Apart id (behind_id token (row ∷ rows))
  by rest true is = rw is all.1
  by rest false is = rw is rest

apart-take : (k : ℕ) (id : List ℕ) (rows : List Row) → Apart id rows → Apart id (take k rows)
apart-take zero id rows all = tt
apart-take (suc k) id [] all = tt
apart-take (suc k) id (row ∷ rows) all = (all.0, apart-take k id rows all.1)

-- ---- the token of a page

-- the ids of tasks
abbrev ids : List Row → List (List ℕ)
ids rows = map (λ row. row.id) rows

-- a token that is none of an id
abbrev Differs : List ℕ → Option (List ℕ) → Type 0
Differs id None = ⊥
Differs id (Some token) = bytes_eq id token ≡ false

last-differs : (id : List ℕ) (after : Option (List ℕ)) (rows : List Row) → Differs id after → Apart id rows → Differs id (last_or after (ids rows))
last-differs id after [] other all = other
last-differs id after (row ∷ rows) other all = last-differs id (Some row.id) rows all.0 all.1

-- the task of another id is passed over
passes-over : (row : Row) (rows : List Row) (token : Option (List ℕ)) → Differs row.id token → behind token (row ∷ rows) ≡ behind token rows
passes-over row rows None other = absurd other
passes-over row rows (Some token) other = rw other refl

same-id : (id : List ℕ) → bytes_eq id id ≡ true
same-id id = (bytes_eq-Decides id id).1 refl

-- behind the last of the first ones are the others
behind-last : (k : ℕ) (row : Row) (rows : List Row) → Own (row ∷ rows) → behind (last_or (Some row.id) (ids (take k rows))) (row ∷ rows) ≡ drop k rows
behind-last zero row rows own = rw (same-id row.id) refl
behind-last (suc k) row [] own = rw (same-id row.id) refl
behind-last (suc k) row (next ∷ rows) own =
    let other : Differs row.id (last_or (Some next.id) (ids (take k rows))) = last-differs row.id (Some next.id) (take k rows) own.0.0 (apart-take k row.id rows own.0.1) in
    passes-over row (next ∷ rows) (last_or (Some next.id) (ids (take k rows))) other ∙ behind-last k next rows own.1

-- behind the token of the next page are the tasks that the page has not
behind-next : (after : Option (List ℕ)) (limit : ℕ) (rows : List Row) → Own rows → behind (next_token after limit rows) rows ≡ drop limit (behind after rows)
behind-next None zero rows own = refl
behind-next None (suc limit) [] own = refl
behind-next None (suc limit) (row ∷ rows) own = behind-last limit row rows own
behind-next (Some token) limit [] own = nothing limit where
  nothing : (k : ℕ) → behind (last_or (Some token) (ids (take k []))) [] ≡ drop k []
  nothing zero = refl
  nothing (suc k) = refl
behind-next (Some token) limit (row ∷ rows) own = by (behind-next (Some token) limit rows own.1) (bytes_eq row.id token) refl where
  by : behind (next_token (Some token) limit rows) rows ≡ drop limit (behind_id token rows) → (b : Bool) → bytes_eq row.id token ≡ b
      → behind (next_token (Some token) limit (row ∷ rows)) (row ∷ rows) ≡ drop limit (behind_id token (row ∷ rows))
  by rest true is =
      let same : row.id ≡ token = (bytes_eq-Decides row.id token).0 is in
      let here : behind_id token (row ∷ rows) ≡ rows = rw is refl in
      ap (λ (rs : List Row). behind (last_or (Some token) (ids (take limit rs))) (row ∷ rows)) here
      ∙ (ap (λ (t : List ℕ). behind (last_or (Some t) (ids (take limit rows))) (row ∷ rows)) (sym same)
      ∙ (behind-last limit row rows own ∙ ap (drop limit) (sym here)))
  by rest false is =
      let here : behind_id token (row ∷ rows) ≡ behind_id token rows = rw is refl in
      let other : Differs row.id (next_token (Some token) limit rows) = last-differs row.id (Some token) (take limit (behind_id token rows)) is (apart-take limit row.id (behind_id token rows) (apart-behind row.id token rows own.0)) in
      ap (λ (rs : List Row). behind (last_or (Some token) (ids (take limit rs))) (row ∷ rows)) here
      ∙ (passes-over row rows (next_token (Some token) limit rows) other ∙ (rest ∙ ap (drop limit) (sym here)))

-- ---- a page, and what comes behind it

own-listed : (list : TaskList) (rows : List Row) → HaveOwnIds rows → Own (listed list rows)
own-listed list rows own = own-filter (is_listed list) rows (own-ids rows own)

page-rest : (after : Option (List ℕ)) (limit : ℕ) (rows : List Row) → Own rows → behind after rows ≡ page_rows after limit rows ++ behind (next_token after limit rows) rows
page-rest after limit rows own =
    sym (take-append-drop limit (behind after rows)) ∙ ap (λ (rs : List Row). take limit (behind after rows) ++ rs) (sym (behind-next after limit rows own))

pub page-and-rest : (list : TaskList) (after : Option (List ℕ)) (limit : ℕ) (rows : List Row) → HaveOwnIds rows → behind after (listed list rows) ≡ page_rows after limit (listed list rows) ++ behind (next_token after limit (listed list rows)) (listed list rows)
page-and-rest list after limit rows own = page-rest after limit (listed list rows) (own-listed list rows own)

-- ---- all pages

nothing-left : (rows : List Row) → length rows ≤ 0 → [] ≡ rows
nothing-left [] none = refl
nothing-left (row ∷ rows) none = absurd (omega arith)

takes-some : (k : ℕ) (rows : List Row) → 0 < k → 0 < length rows → 0 < length (take k rows)
takes-some zero rows some_ there = absurd (omega arith)
takes-some (suc k) [] some_ there = absurd (omega arith)
takes-some (suc k) (row ∷ rows) some_ there = omega arith

fewer-left : (all page behind count : ℕ) → all ≡ page + behind → (0 < all → 0 < page) → all ≤ suc count → behind ≤ count
fewer-left zero page behind count long full few = omega arith
fewer-left (suc all) page behind count long full few = let some_ = full (omega arith) in omega arith

whole-after : (count limit : ℕ) (after : Option (List ℕ)) (rows : List Row) → Own rows → 0 < limit → length (behind after rows) ≤ count → pages count after limit rows ≡ behind after rows
whole-after zero limit after rows own some_ few = nothing-left (behind after rows) few
whole-after (suc count) limit after rows own some_ few =
    let law = page-rest after limit rows own in
    let page : List Row = page_rows after limit rows in
    let rest : List Row = behind (next_token after limit rows) rows in
    let long : length (behind after rows) ≡ length page + length rest = ap length law ∙ length-append page rest in
    let full : 0 < length (behind after rows) → 0 < length page = takes-some limit (behind after rows) some_ in
    let fewer : length rest ≤ count = fewer-left (length (behind after rows)) (length page) (length rest) count long full few in
    ap (λ (rs : List Row). page ++ rs) (whole-after count limit (next_token after limit rows) rows own some_ fewer) ∙ sym law

filter-few : (test : Row → Bool) (rows : List Row) → length (filter test rows) ≤ length rows
filter-few test [] = omega arith
filter-few test (row ∷ rows) = by (filter-few test rows) (test row) refl where
  by : length (filter test rows) ≤ length rows → (b : Bool) → test row ≡ b → length (filter test (row ∷ rows)) ≤ length (row ∷ rows)
  by rest true is = rw is (omega arith)
  by rest false is = rw is (omega arith)

behind-few : (after : Option (List ℕ)) (rows : List Row) → length (behind after rows) ≤ length rows
behind-few None rows = omega arith
behind-few (Some token) [] = omega arith
behind-few (Some token) (row ∷ rows) = by (behind-few (Some token) rows) (bytes_eq row.id token) refl where
  by : length (behind_id token rows) ≤ length rows → (b : Bool) → bytes_eq row.id token ≡ b → length (behind_id token (row ∷ rows)) ≤ length (row ∷ rows)
  by rest true is = rw is (omega arith)
  by rest false is = rw is (omega arith)

pub pages-whole : (list : TaskList) (count limit : ℕ) (after : Option (List ℕ)) (rows : List Row) → HaveOwnIds rows → 0 < limit → length rows ≤ count → pages count after limit (listed list rows) ≡ behind after (listed list rows)
pages-whole list count limit after rows own some_ few =
    let fewer = filter-few (is_listed list) rows in
    let less = behind-few after (listed list rows) in
    whole-after count limit after (listed list rows) (own-listed list rows own) some_ (omega arith)
