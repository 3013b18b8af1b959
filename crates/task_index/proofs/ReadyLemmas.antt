-- Which tasks are ready, and what settling makes of them.
use Rattle.std.proofs.Common.{◌≡◌, ℕ, ◌+◌, Bool, true, false, ◌&&◌, ◌||◌, cond, List, [], ◌∷◌, ◌++◌, map, length, bytes_eq, count_by, is_none, Some, None, refl, ap, sym, ◌∙◌, arith}
use Rattle.std.specs.List.{list_any, list_all, last_or}
use Rattle.std.proofs.lemmas.List.Sums.{sum_by-cons}
use Rattle.task_types.specs.declared.choices.Requires.{Requires}
use Rattle.run_states.specs.declared.run.Run.{Run}
use Rattle.run_states.specs.Rows.{Row, is_unscheduled, first_run, scheduled, due_moments}
use Rattle.run_states.specs.Serving.{serves}
use Rattle.run_states.specs.Later.{RunsLater, RowLater, RowsLater}
use Rattle.run_states.proofs.LaterLemmas.{RowLater-refl, scheduled-later}
use Rattle.run_states.proofs.ServeLemmas.{serves-scheduled, unscheduled-serves}
use Rattle.task_index.specs.Contents.{Contents}
use Rattle.task_index.specs.Due.{all_due_moments, change_first}
use Rattle.task_index.specs.Ready.{id_serves, is_ready, has_ready, started, settled_row, settled}
use Rattle.task_index.proofs.Settling.{one_if}
use Rattle.task_index.proofs.DueLemmas.{any_none}

-- ---- a task that is scheduled

scheduled-same : (number at : ℕ) (row : Row) (run : Run) (runs : List Run) → row.runs ≡ run ∷ runs → scheduled number at row ≡ row
scheduled-same number at row run runs is =
    ap (λ (rs : List Run). let r : Row = record row { runs = first_run number at rs } in r) is ∙ sym (ap (λ (rs : List Run). let r : Row = record row { runs = rs } in r) is)

pub some-last : (run : Run) (runs : List Run) → is_none (last_or (Some run) runs) ≡ false
some-last run [] = refl
some-last run (next ∷ runs) = some-last next runs

pub scheduled-busy : (number at : ℕ) (row : Row) → is_unscheduled (scheduled number at row) ≡ false
scheduled-busy number at row = by row.runs refl where
  by : (runs : List Run) → row.runs ≡ runs → is_unscheduled (scheduled number at row) ≡ false
  by [] is = rw is refl
  by (run ∷ runs) is = ap is_unscheduled (scheduled-same number at row run runs is) ∙ (ap (λ (rs : List Run). is_none (last_or None rs)) is ∙ some-last run runs)

-- a task that has a run has one later
pub later-busy : (before after : Row) → RowLater before after → is_unscheduled before ≡ false → is_unscheduled after ≡ false
later-busy before after later busy = by before.runs after.runs later.runs busy where
  by : (xs ys : List Run) → RunsLater xs ys → is_none (last_or None xs) ≡ false → is_none (last_or None ys) ≡ false
  by [] ys stay busy = cc
  by (run ∷ xs) [] stay busy = absurd stay
  by (run ∷ xs) (other ∷ ys) stay busy = some-last other ys

-- nothing of it falls due at another moment
scheduled-due : (number at : ℕ) (row : Row) → due_moments (scheduled number at row) ≡ due_moments row
scheduled-due number at row = by row.runs refl where
  by : (runs : List Run) → row.runs ≡ runs → due_moments (scheduled number at row) ≡ due_moments row
  by [] is = rw is refl
  by (run ∷ runs) is = ap due_moments (scheduled-same number at row run runs is)

-- ---- tasks of which some are scheduled

-- a task that is scheduled, or not: what it serves stays, and what falls due of it
pub record IsAlike (before after : Row) : Type 0 where
  pub later : RowLater before after
  pub served : (needs : Requires) → serves needs after ≡ serves needs before
  pub due : due_moments after ≡ due_moments before

abbrev pub AreAlike : List Row → List Row → Type 0
AreAlike [] [] = Unit {0}
AreAlike [] (row ∷ after) = ⊥
AreAlike (row ∷ before) [] = ⊥
AreAlike (row ∷ before) (other ∷ after) = IsAlike row other × AreAlike before after

pub alike-same : (row : Row) → IsAlike row row
alike-same row = record { later = RowLater-refl row; served = λ needs. refl; due = refl }

pub all-alike : (rows : List Row) → AreAlike rows rows
all-alike [] = tt
all-alike (row ∷ rows) = (alike-same row, all-alike rows)

pub alike-scheduled : (number at : ℕ) (row : Row) → IsAlike row (scheduled number at row)
alike-scheduled number at row = record {
  later = scheduled-later number at row;
  served = λ needs. serves-scheduled needs number at row;
  due = scheduled-due number at row;
}

started-alike : (test : Row → Bool) (number at : ℕ) (rows : List Row) → AreAlike rows (started test number at rows)
started-alike test number at [] = tt
started-alike test number at (row ∷ rows) = by (started-alike test number at rows) (started-alike test (number + 1) at rows) (test row) refl where
  by : AreAlike rows (started test number at rows) → AreAlike rows (started test (number + 1) at rows) → (b : Bool) → test row ≡ b → AreAlike (row ∷ rows) (started test number at (row ∷ rows))
  by here more true is = rw is (alike-scheduled number at row, more)
  by here more false is = rw is (alike-same row, here)

change-alike : (test : Row → Bool) (number at : ℕ) (rows : List Row) → AreAlike rows (change_first test (scheduled number at) rows)
change-alike test number at [] = tt
change-alike test number at (row ∷ rows) = by (change-alike test number at rows) (test row) refl where
  by : AreAlike rows (change_first test (scheduled number at) rows) → (b : Bool) → test row ≡ b → AreAlike (row ∷ rows) (change_first test (scheduled number at) (row ∷ rows))
  by rest true is = rw is (alike-scheduled number at row, all-alike rows)
  by rest false is = rw is (alike-same row, rest)

alike-later : (rows after : List Row) → AreAlike rows after → RowsLater rows after
alike-later [] after alike = tt
alike-later (row ∷ rows) [] alike = absurd alike
alike-later (row ∷ rows) (other ∷ after) alike = (alike.0.later, alike-later rows after alike.1)

pub alike-ids : (rows after : List Row) → AreAlike rows after → map (λ row. row.id) after ≡ map (λ row. row.id) rows
alike-ids [] [] alike = refl
alike-ids [] (other ∷ after) alike = absurd alike
alike-ids (row ∷ rows) [] alike = absurd alike
alike-ids (row ∷ rows) (other ∷ after) alike =
    ap (λ (id : List ℕ). id ∷ map (λ row. row.id) after) alike.0.later.id ∙ ap (λ (ids : List (List ℕ)). row.id ∷ ids) (alike-ids rows after alike.1)

alike-due : (rows after : List Row) → AreAlike rows after → all_due_moments after ≡ all_due_moments rows
alike-due [] [] alike = refl
alike-due [] (other ∷ after) alike = absurd alike
alike-due (row ∷ rows) [] alike = absurd alike
alike-due (row ∷ rows) (other ∷ after) alike =
    ap (λ (due : List ℕ). due ++ all_due_moments after) alike.0.due ∙ ap (λ (due : List ℕ). due_moments row ++ due) (alike-due rows after alike.1)

alike-serves : (needs : Requires) (id : List ℕ) (rows after : List Row) → AreAlike rows after → id_serves needs after id ≡ id_serves needs rows id
alike-serves needs id [] [] alike = refl
alike-serves needs id [] (other ∷ after) alike = absurd alike
alike-serves needs id (row ∷ rows) [] alike = absurd alike
alike-serves needs id (row ∷ rows) (other ∷ after) alike = by (alike-serves needs id rows after alike.1) (bytes_eq row.id id) refl where
  also : (b : Bool) → bytes_eq row.id id ≡ b → bytes_eq other.id id ≡ b
  also b is = ap (λ (i : List ℕ). bytes_eq i id) alike.0.later.id ∙ is

  by : id_serves needs after id ≡ id_serves needs rows id → (b : Bool) → bytes_eq row.id id ≡ b → id_serves needs (other ∷ after) id ≡ id_serves needs (row ∷ rows) id
  by rest true is = rw (also true is, is) (alike.0.served needs)
  by rest false is = rw (also false is, is) rest

all-same : (f g : List ℕ → Bool) → ((id : List ℕ) → f id ≡ g id) → (ids : List (List ℕ)) → list_all f ids ≡ list_all g ids
all-same f g same [] = refl
all-same f g same (id ∷ ids) = rw (same id, all-same f g same ids) refl

-- the same tasks are ready among them
pub ready-alike : (rows after : List Row) → AreAlike rows after → (row : Row) → is_ready after row ≡ is_ready rows row
ready-alike rows after alike row =
    let needs : Requires = row.definition.requires_ in
    ap (λ b. is_unscheduled row && b) (all-same (id_serves needs after) (id_serves needs rows) (λ id. alike-serves needs id rows after alike) row.definition.dependencies)

-- ---- none is ready afterwards

-- a task that is scheduled is not
pub ready-not : (all : List Row) (number at : ℕ) (row : Row) → is_ready all (scheduled number at row) ≡ false
ready-not all number at row = ap (λ b. b && list_all (id_serves row.definition.requires_ all) row.definition.dependencies) (scheduled-busy number at row)

none-started : (all after : List Row) → AreAlike all after → (number at : ℕ) (rows : List Row) → list_any (is_ready after) (started (is_ready all) number at rows) ≡ false
none-started all after alike number at [] = refl
none-started all after alike number at (row ∷ rows) = by (none-started all after alike number at rows) (none-started all after alike (number + 1) at rows) (is_ready all row) refl where
  by : list_any (is_ready after) (started (is_ready all) number at rows) ≡ false → list_any (is_ready after) (started (is_ready all) (number + 1) at rows) ≡ false → (b : Bool) → is_ready all row ≡ b
      → list_any (is_ready after) (started (is_ready all) number at (row ∷ rows)) ≡ false
  by here more true is =
      ap (λ b. list_any (is_ready after) (cond b (scheduled number at row ∷ started (is_ready all) (number + 1) at rows) (row ∷ started (is_ready all) number at rows))) is
      ∙ (ap (λ b. b || list_any (is_ready after) (started (is_ready all) (number + 1) at rows)) (ready-not after number at row) ∙ more)
  by here more false is =
      ap (λ b. list_any (is_ready after) (cond b (scheduled number at row ∷ started (is_ready all) (number + 1) at rows) (row ∷ started (is_ready all) number at rows))) is
      ∙ (ap (λ b. b || list_any (is_ready after) (started (is_ready all) number at rows)) (ready-alike all after alike row ∙ is) ∙ here)

pub settled-none : (contents : Contents) (at : ℕ) → has_ready (settled contents at) ≡ false
unfolding settled
settled-none contents at =
    none-started contents.rows (started (is_ready contents.rows) contents.next at contents.rows) (started-alike (is_ready contents.rows) contents.next at contents.rows) contents.next at contents.rows

-- ---- where none is ready, settling changes nothing

pub count-cons : (test : Row → Bool) (row : Row) (rows : List Row) → count_by test (row ∷ rows) ≡ one_if (test row) + count_by test rows
count-cons test row rows = sum_by-cons (λ (r : Row). cond (test r) 1 0) row rows

pub started-none : (test : Row → Bool) (number at : ℕ) (rows : List Row) → list_any test rows ≡ false → started test number at rows ≡ rows
started-none test number at [] none = refl
started-none test number at (row ∷ rows) none =
    let parts = any_none (test row) (list_any test rows) none in
    ap (λ b. cond b (scheduled number at row ∷ started test (number + 1) at rows) (row ∷ started test number at rows)) parts.0
    ∙ ap (λ (rs : List Row). row ∷ rs) (started-none test number at rows parts.1)

pub count-none : (test : Row → Bool) (rows : List Row) → list_any test rows ≡ false → count_by test rows ≡ 0
count-none test [] none = refl
count-none test (row ∷ rows) none =
    let parts = any_none (test row) (list_any test rows) none in
    let here : one_if (test row) ≡ 0 = ap one_if parts.0 in
    let there = count-none test rows parts.1 in
    let split = count-cons test row rows in
    omega arith

pub settled-idle : (contents : Contents) (at : ℕ) → has_ready contents ≡ false → settled contents at ≡ contents
unfolding settled
settled-idle contents at none =
    let counted = count-none (is_ready contents.rows) contents.rows none in
    let drawn : contents.next + count_by (is_ready contents.rows) contents.rows ≡ contents.next = omega arith in
    ap (λ (rs : List Row). let c : Contents = record contents { rows = rs; next = contents.next + count_by (is_ready contents.rows) contents.rows } in c) (started-none (is_ready contents.rows) contents.next at contents.rows none)
    ∙ ap (λ n. let c : Contents = record contents { next = n } in c) drawn

-- and where none is unscheduled
pub busy-none : (all rows : List Row) → list_any is_unscheduled rows ≡ false → list_any (is_ready all) rows ≡ false
busy-none all [] busy = refl
busy-none all (row ∷ rows) busy =
    let parts = any_none (is_unscheduled row) (list_any is_unscheduled rows) busy in
    ap (λ b. (b && list_all (id_serves row.definition.requires_ all) row.definition.dependencies) || list_any (is_ready all) rows) parts.0 ∙ busy-none all rows parts.1

pub settled-busy : (contents : Contents) (at : ℕ) → list_any is_unscheduled contents.rows ≡ false → settled contents at ≡ contents
settled-busy contents at busy = settled-idle contents at (busy-none contents.rows contents.rows busy)

-- ---- settling goes one by one

started-same : (f g : Row → Bool) → ((row : Row) → f row ≡ g row) → (number at : ℕ) (rows : List Row) → started f number at rows ≡ started g number at rows
started-same f g same number at [] = refl
started-same f g same number at (row ∷ rows) = by (started-same f g same number at rows) (started-same f g same (number + 1) at rows) (g row) refl where
  by : started f number at rows ≡ started g number at rows → started f (number + 1) at rows ≡ started g (number + 1) at rows → (b : Bool) → g row ≡ b → started f number at (row ∷ rows) ≡ started g number at (row ∷ rows)
  by here more true is = rw (same row ∙ is, is) (ap (λ (rs : List Row). scheduled number at row ∷ rs) more)
  by here more false is = rw (same row ∙ is, is) (ap (λ (rs : List Row). row ∷ rs) here)

pub count-same : (f g : Row → Bool) → ((row : Row) → f row ≡ g row) → (rows : List Row) → count_by f rows ≡ count_by g rows
count-same f g same [] = refl
count-same f g same (row ∷ rows) =
    let here : one_if (f row) ≡ one_if (g row) = ap one_if (same row) in
    let there = count-same f g same rows in
    let left = count-cons f row rows in
    let right = count-cons g row rows in
    omega arith

others : (test : Row → Bool) (row : Row) (rows : List Row) → list_any test (row ∷ rows) ≡ true → test row ≡ false → list_any test rows ≡ true
others test row rows some_ is = sym (ap (λ b. b || list_any test rows) is) ∙ some_

started-first : (test : Row → Bool) (number at : ℕ) → ((row : Row) → test (scheduled number at row) ≡ false) → (rows : List Row) → list_any test rows ≡ true
    → started test number at rows ≡ started test (number + 1) at (change_first test (scheduled number at) rows)
started-first test number at not_ [] some_ = cc
started-first test number at not_ (row ∷ rows) some_ = by (started-first test number at not_ rows) (test row) refl where
  left : List Row
  left = change_first test (scheduled number at) rows

  by : (list_any test rows ≡ true → started test number at rows ≡ started test (number + 1) at (change_first test (scheduled number at) rows)) → (b : Bool) → test row ≡ b
      → started test number at (row ∷ rows) ≡ started test (number + 1) at (change_first test (scheduled number at) (row ∷ rows))
  by rest true is =
      ap (λ b. cond b (scheduled number at row ∷ started test (number + 1) at rows) (row ∷ started test number at rows)) is
      ∙ sym (ap (λ b. started test (number + 1) at (cond b (scheduled number at row ∷ rows) (row ∷ change_first test (scheduled number at) rows))) is
      ∙ ap (λ b. cond b (scheduled (number + 1) at (scheduled number at row) ∷ started test (number + 1 + 1) at rows) (scheduled number at row ∷ started test (number + 1) at rows)) (not_ row))
  by rest false is =
      ap (λ b. cond b (scheduled number at row ∷ started test (number + 1) at rows) (row ∷ started test number at rows)) is
      ∙ (ap (λ (rs : List Row). row ∷ rs) (rest (others test row rows some_ is))
      ∙ sym (ap (λ b. started test (number + 1) at (cond b (scheduled number at row ∷ rows) (row ∷ change_first test (scheduled number at) rows))) is
      ∙ ap (λ b. cond b (scheduled (number + 1) at row ∷ started test (number + 1 + 1) at (change_first test (scheduled number at) rows)) (row ∷ started test (number + 1) at (change_first test (scheduled number at) rows))) is))

count-first : (test : Row → Bool) (f : Row → Row) → ((row : Row) → test (f row) ≡ false) → (rows : List Row) → list_any test rows ≡ true → count_by test rows ≡ count_by test (change_first test f rows) + 1
count-first test f not_ [] some_ = cc
count-first test f not_ (row ∷ rows) some_ = by (count-first test f not_ rows) (test row) refl where
  by : (list_any test rows ≡ true → count_by test rows ≡ count_by test (change_first test f rows) + 1) → (b : Bool) → test row ≡ b → count_by test (row ∷ rows) ≡ count_by test (change_first test f (row ∷ rows)) + 1
  by rest true is =
      let one : one_if (test row) ≡ 1 = ap one_if is in
      let none : one_if (test (f row)) ≡ 0 = ap one_if (not_ row) in
      let before = count-cons test row rows in
      let after : count_by test (change_first test f (row ∷ rows)) ≡ one_if (test (f row)) + count_by test rows = ap (λ b. count_by test (cond b (f row ∷ rows) (row ∷ change_first test f rows))) is ∙ count-cons test (f row) rows in
      omega arith
  by rest false is =
      let more = rest (others test row rows some_ is) in
      let before = count-cons test row rows in
      let after : count_by test (change_first test f (row ∷ rows)) ≡ one_if (test row) + count_by test (change_first test f rows) = ap (λ b. count_by test (cond b (f row ∷ rows) (row ∷ change_first test f rows))) is ∙ count-cons test row (change_first test f rows) in
      omega arith

pub settled-first : (contents : Contents) (at : ℕ) → has_ready contents ≡ true
    → settled contents at ≡ settled (record contents { rows = change_first (is_ready contents.rows) (scheduled contents.next at) contents.rows; next = contents.next + 1 }) at
unfolding settled
settled-first contents at some_ =
    let test : Row → Bool = is_ready contents.rows in
    let after : List Row = change_first test (scheduled contents.next at) contents.rows in
    let same : (row : Row) → is_ready after row ≡ test row = ready-alike contents.rows after (change-alike test contents.next at contents.rows) in
    let rows : started test contents.next at contents.rows ≡ started (is_ready after) (contents.next + 1) at after =
    started-first test contents.next at (ready-not contents.rows contents.next at) contents.rows some_ ∙ sym (started-same (is_ready after) test same (contents.next + 1) at after) in
    let one = count-first test (scheduled contents.next at) (ready-not contents.rows contents.next at) contents.rows some_ in
    let counted = count-same (is_ready after) test same after in
    let drawn : contents.next + count_by test contents.rows ≡ contents.next + 1 + count_by (is_ready after) after = omega arith in
    ap (λ (rs : List Row). let c : Contents = record contents { rows = rs; next = contents.next + count_by test contents.rows } in c) rows
    ∙ ap (λ n. let c : Contents = record contents { rows = started (is_ready after) (contents.next + 1) at after; next = n } in c) drawn

-- ---- what stays

pub settled-alike : (contents : Contents) (at : ℕ) → AreAlike contents.rows (settled contents at).rows
unfolding settled
settled-alike contents at = started-alike (is_ready contents.rows) contents.next at contents.rows

pub settled-due : (contents : Contents) (at : ℕ) → all_due_moments (settled contents at).rows ≡ all_due_moments contents.rows
settled-due contents at = alike-due contents.rows (settled contents at).rows (settled-alike contents at)

pub settled-stays : (contents : Contents) (at : ℕ) → RowsLater contents.rows (settled contents at).rows
settled-stays contents at = alike-later contents.rows (settled contents at).rows (settled-alike contents at)

pub settled-ids : (contents : Contents) (at : ℕ) → map (λ row. row.id) (settled contents at).rows ≡ map (λ row. row.id) contents.rows
settled-ids contents at = alike-ids contents.rows (settled contents at).rows (settled-alike contents at)

alike-length : (rows after : List Row) → AreAlike rows after → length after ≡ length rows
alike-length [] [] alike = refl
alike-length [] (other ∷ after) alike = absurd alike
alike-length (row ∷ rows) [] alike = absurd alike
alike-length (row ∷ rows) (other ∷ after) alike = let e = alike-length rows after alike.1 in omega arith

pub settled-length : (contents : Contents) (at : ℕ) → length (settled contents at).rows ≡ length contents.rows
settled-length contents at = alike-length contents.rows (settled contents at).rows (settled-alike contents at)

-- and settling does not look at the last moment
pub settled-last : (contents : Contents) (at last : ℕ) → settled (record contents { last = last }) at ≡ record (settled contents at) { last = last }
unfolding settled
settled-last contents at last = refl

pub settled-keeps : (contents : Contents) (at : ℕ) → (settled contents at).last ≡ contents.last
unfolding settled
settled-keeps contents at = refl

-- ---- tasks that have runs

-- one that is changed still has
pub busy-change : (test : Row → Bool) (f : Row → Row) → ((row : Row) → RowLater row (f row)) → (rows : List Row) → list_any is_unscheduled rows ≡ false → list_any is_unscheduled (change_first test f rows) ≡ false
busy-change test f later [] busy = refl
busy-change test f later (row ∷ rows) busy = by (busy-change test f later rows) (test row) refl where
  parts : (is_unscheduled row ≡ false) × (list_any is_unscheduled rows ≡ false)
  parts = any_none (is_unscheduled row) (list_any is_unscheduled rows) busy

  by : (list_any is_unscheduled rows ≡ false → list_any is_unscheduled (change_first test f rows) ≡ false) → (b : Bool) → test row ≡ b → list_any is_unscheduled (change_first test f (row ∷ rows)) ≡ false
  by rest true is =
      ap (λ b. list_any is_unscheduled (cond b (f row ∷ rows) (row ∷ change_first test f rows))) is
      ∙ (ap (λ b. b || list_any is_unscheduled rows) (later-busy row (f row) (later row) parts.0) ∙ parts.1)
  by rest false is =
      ap (λ b. list_any is_unscheduled (cond b (f row ∷ rows) (row ∷ change_first test f rows))) is
      ∙ (ap (λ b. b || list_any is_unscheduled (change_first test f rows)) parts.0 ∙ rest parts.1)

-- ---- a task more, which is unscheduled

-- it serves nobody
more-serves : (needs : Requires) (id : List ℕ) (rows : List Row) (row : Row) → serves needs row ≡ false → id_serves needs (rows ++ row ∷ []) id ≡ id_serves needs rows id
more-serves needs id [] row none = by (bytes_eq row.id id) refl where
  by : (b : Bool) → bytes_eq row.id id ≡ b → id_serves needs (row ∷ []) id ≡ false
  by true is = rw is none
  by false is = rw is refl
more-serves needs id (first ∷ rows) row none = by (more-serves needs id rows row none) (bytes_eq first.id id) refl where
  by : id_serves needs (rows ++ row ∷ []) id ≡ id_serves needs rows id → (b : Bool) → bytes_eq first.id id ≡ b → id_serves needs ((first ∷ rows) ++ row ∷ []) id ≡ id_serves needs (first ∷ rows) id
  by rest true is = rw is refl
  by rest false is = rw is rest

pub ready-more : (rows : List Row) (row : Row) → is_unscheduled row ≡ true → (other : Row) → is_ready (rows ++ row ∷ []) other ≡ is_ready rows other
ready-more rows row free other =
    let needs : Requires = other.definition.requires_ in
    ap (λ b. is_unscheduled other && b)
    (all-same (id_serves needs (rows ++ row ∷ [])) (id_serves needs rows) (λ id. more-serves needs id rows row (unscheduled-serves needs row free)) other.definition.dependencies)

started-more : (test : Row → Bool) (number at : ℕ) (rows : List Row) (row : Row) → list_any test rows ≡ false → started test number at (rows ++ row ∷ []) ≡ rows ++ started test number at (row ∷ [])
started-more test number at [] row none = refl
started-more test number at (first ∷ rows) row none =
    let parts = any_none (test first) (list_any test rows) none in
    ap (λ b. cond b (scheduled number at first ∷ started test (number + 1) at (rows ++ row ∷ [])) (first ∷ started test number at (rows ++ row ∷ []))) parts.0
    ∙ ap (λ (rs : List Row). first ∷ rs) (started-more test number at rows row parts.1)

-- where none was ready, it alone may be started
pub settled-more : (contents : Contents) (last at : ℕ) (row : Row) → has_ready contents ≡ false → is_unscheduled row ≡ true
    → (settled (record contents { rows = contents.rows ++ row ∷ []; last = last }) at).rows ≡ contents.rows ++ settled_row contents at row ∷ []
unfolding settled
settled-more contents last at row none free =
    let rows : List Row = contents.rows ++ row ∷ [] in
    started-same (is_ready rows) (is_ready contents.rows) (ready-more contents.rows row free) contents.next at rows
    ∙ (started-more (is_ready contents.rows) contents.next at contents.rows row none ∙ ap (λ (rs : List Row). contents.rows ++ rs) (one (is_ready contents.rows row) refl))
  where
    one : (b : Bool) → is_ready contents.rows row ≡ b → started (is_ready contents.rows) contents.next at (row ∷ []) ≡ settled_row contents at row ∷ []
    one true is = rw is refl
    one false is = rw is refl

-- a task that is ready is unscheduled
pub ready-free : (rows : List Row) (row : Row) → is_ready rows row ≡ true → is_unscheduled row ≡ true
ready-free rows row is = by (is_unscheduled row) refl is where
  by : (b : Bool) → is_unscheduled row ≡ b → is_ready rows row ≡ true → is_unscheduled row ≡ true
  by true free is = free
  by false busy is = let no_ : false ≡ true = rw busy at is in cc
