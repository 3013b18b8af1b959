-- The task of a row: no two tasks have one row.
use Rattle.std.proofs.Common.{◌≡◌, ℕ, zero, suc, ◌<◌, Bool, true, false, ◌&&◌, List, [], ◌∷◌, length, get_or, Some, None, refl, sym, ◌∙◌, ap, subst, arith, ◌==◌}
use Rattle.std.specs.Prelude.{slice_get}
use Rattle.std.specs.List.{IsDistinct, AllByRecursion, list_any}
use Rattle.std.proofs.Math.ListN.{set}
use Rattle.dep_graph.specs.declared.node.Progress.{Progress}
use Rattle.dep_graph.specs.declared.node.Requires.{Requires}
use Rattle.dep_graph.specs.Nodes.{Task, rows_of, is_in, dependants_of, moved}
use Rattle.dep_graph.specs.Ready.{serves, row_serves}
use Rattle.dep_graph.specs.Kept.{HaveOwnRows}

-- nothing stands at a place of no list
pub none-some : (x : ℕ) → None ≡ Some x → ⊥
none-some x is = cc

pub same_row : (a b : ℕ) → (a == b) ≡ true → a ≡ b
same_row a b is = search (arith, is)

pub row_same : (a : ℕ) → (a == a) ≡ true
row_same a = search arith

-- where no task has the row, none passes a test under it
pub none-passes : (test : Task → Bool) (tasks : List Task) (row : ℕ) → is_in (rows_of tasks) row ≡ false → list_any (λ task. (task.row == row) && test task) tasks ≡ false
none-passes test [] row none = refl
none-passes test (t ∷ ts) row none = by (none-passes test ts row) (t.row == row) refl where
  by : (is_in (rows_of ts) row ≡ false → list_any (λ task. (task.row == row) && test task) ts ≡ false) → (b : Bool) → (t.row == row) ≡ b → list_any (λ task. (task.row == row) && test task) (t ∷ ts) ≡ false
  by rest true is = absurd (let e : true ≡ false = rw is at none in cc)
  by rest false is = let others : is_in (rows_of ts) row ≡ false = rw is at none in rw is (rest others)

-- and none serves
pub none-serves : (tasks : List Task) (needs : Requires) (row : ℕ) → is_in (rows_of tasks) row ≡ false → row_serves tasks needs row ≡ false
none-serves tasks needs row none = none-passes (λ task. serves needs task.progress) tasks row none

-- a row that differs from all is in no list
pub none-in : (row : ℕ) (rows : List ℕ) → AllByRecursion (λ y. (row == y) ≡ false) rows → is_in rows row ≡ false
none-in row [] differ = refl
none-in row (x ∷ xs) differ = by (none-in row xs differ.1) (x == row) refl where
  by : is_in xs row ≡ false → (b : Bool) → (x == row) ≡ b → is_in (x ∷ xs) row ≡ false
  by rest true is =
      let same : x ≡ row = same_row x row is in
      let P : ℕ → Type 0 = λ y. (row == y) ≡ false in
      let no_ : (row == row) ≡ false = subst P same differ.0 in
      absurd (let yes_ = row_same row in cc)
  by rest false is = rw is rest

-- a row that is in the list differs from one that differs from all
pub differs-at : (row held : ℕ) (rows : List ℕ) (place : ℕ) → AllByRecursion (λ y. (held == y) ≡ false) rows → slice_get rows place ≡ Some row → (held == row) ≡ false
differs-at row held [] place differ at = absurd (none-some row at)
differs-at row held (x ∷ xs) zero differ at =
    let same : x ≡ row = (let e : Some x ≡ Some row = at in cc) in
    let P : ℕ → Type 0 = λ y. (held == y) ≡ false in
    subst P same differ.0
differs-at row held (x ∷ xs) (suc place) differ at = differs-at row held xs place differ.1 at

-- a test under a row is that of the task with it
pub one-passes : (test : Task → Bool) (tasks : List Task) (row place : ℕ) (d : Task) → HaveOwnRows tasks → slice_get (rows_of tasks) place ≡ Some row → test (get_or tasks place d) ≡ list_any (λ task. (task.row == row) && test task) tasks
unfolding IsDistinct
one-passes test [] row place d own at = absurd (none-some row at)
one-passes test (t ∷ ts) row zero d own at =
    let same : t.row ≡ row = (let e : Some t.row ≡ Some row = at in cc) in
    let P : ℕ → Type 0 = λ r. test t ≡ list_any (λ task. (task.row == r) && test task) (t ∷ ts) in
    subst P same (by (test t) refl)
  where
    by : (b : Bool) → test t ≡ b → test t ≡ list_any (λ task. (task.row == t.row) && test task) (t ∷ ts)
    by true is = rw (row_same t.row, is) refl
    by false is = rw (row_same t.row, is, none-passes test ts t.row (none-in t.row (rows_of ts) own.0)) refl
one-passes test (t ∷ ts) row (suc place) d own at =
    rw (differs-at row t.row (rows_of ts) place own.0 at) (one-passes test ts row place d own.1 at)

-- the task with a row serves as it alone does
pub one-serves : (tasks : List Task) (needs : Requires) (row place : ℕ) (d : Task) → HaveOwnRows tasks → slice_get (rows_of tasks) place ≡ Some row → serves needs ((get_or tasks place d).progress) ≡ row_serves tasks needs row
one-serves tasks needs row place d own at = one-passes (λ task. serves needs task.progress) tasks row place d own at

-- the row of the task at a place
pub row-at : (tasks : List Task) (place : ℕ) (d : Task) → place < length tasks → slice_get (rows_of tasks) place ≡ Some ((get_or tasks place d).row)
row-at [] place d within = absurd (omega arith)
row-at (t ∷ ts) zero d within = refl
row-at (t ∷ ts) (suc place) d within = row-at ts place d (omega arith)

-- the first of the tasks that come so far, and the others stay
pub moved-rows : (row : ℕ) (progress : Progress) (tasks : List Task) → rows_of (moved row progress tasks) ≡ rows_of tasks
moved-rows row progress [] = refl
moved-rows row progress (t ∷ ts) = by (moved-rows row progress ts) (t.row == row) refl where
  by : rows_of (moved row progress ts) ≡ rows_of ts → (b : Bool) → (t.row == row) ≡ b → rows_of (moved row progress (t ∷ ts)) ≡ rows_of (t ∷ ts)
  by rest true is = rw is (ap (λ (l : List ℕ). t.row ∷ l) rest)
  by rest false is = rw is (ap (λ (l : List ℕ). t.row ∷ l) rest)

-- ---- the task that goes on

-- where none has the row, all stay
pub moved-none : (row : ℕ) (progress : Progress) (tasks : List Task) → is_in (rows_of tasks) row ≡ false → tasks ≡ moved row progress tasks
moved-none row progress [] none = refl
moved-none row progress (t ∷ ts) none = by (moved-none row progress ts) (t.row == row) refl where
  by : (is_in (rows_of ts) row ≡ false → ts ≡ moved row progress ts) → (b : Bool) → (t.row == row) ≡ b → t ∷ ts ≡ moved row progress (t ∷ ts)
  by rest true is = absurd (let e : true ≡ false = rw is at none in cc)
  by rest false is = let others : is_in (rows_of ts) row ≡ false = rw is at none in rw is (ap (λ (l : List Task). t ∷ l) (rest others))

pub moved-at : (tasks : List Task) (row place : ℕ) (progress : Progress) (d : Task) → HaveOwnRows tasks → slice_get (rows_of tasks) place ≡ Some row → set tasks place (record (get_or tasks place d) { progress = progress }) ≡ moved row progress tasks
unfolding IsDistinct
moved-at [] row place progress d own at = absurd (none-some row at)
moved-at (t ∷ ts) row zero progress d own at =
    let same : t.row ≡ row = (let e : Some t.row ≡ Some row = at in cc) in
    let here : (t.row == row) ≡ true = ap (λ y. t.row == y) (sym same) ∙ row_same t.row in
    let none : is_in (rows_of ts) row ≡ false = ap (is_in (rows_of ts)) (sym same) ∙ none-in t.row (rows_of ts) own.0 in
    rw here (ap (λ (l : List Task). record t { progress = progress } ∷ l) (moved-none row progress ts none))
moved-at (t ∷ ts) row (suc place) progress d own at =
    rw (differs-at row t.row (rows_of ts) place own.0 at) (ap (λ (l : List Task). t ∷ l) (moved-at ts row place progress d own.1 at))

-- who depends on whom stays
pub dependants-moved : (row : ℕ) (progress : Progress) (tasks : List Task) (on : ℕ) → dependants_of (moved row progress tasks) on ≡ dependants_of tasks on
dependants-moved row progress [] on = refl
dependants-moved row progress (t ∷ ts) on = by (dependants-moved row progress ts on) (t.row == row) (is_in t.dependencies on) refl refl where
  by : dependants_of (moved row progress ts) on ≡ dependants_of ts on → (a b : Bool) → (t.row == row) ≡ a → is_in t.dependencies on ≡ b → dependants_of (moved row progress (t ∷ ts)) on ≡ dependants_of (t ∷ ts) on
  by rest true true is also = rw is (rw also (ap (λ (l : List ℕ). t.row ∷ l) rest))
  by rest true false is also = rw is (rw also rest)
  by rest false true is also = rw is (rw also (ap (λ (l : List ℕ). t.row ∷ l) rest))
  by rest false false is also = rw is (rw also rest)
