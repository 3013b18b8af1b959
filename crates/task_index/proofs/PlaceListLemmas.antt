-- The places of the tasks on each list: a task that comes, and tasks that change.
use Rattle.std.proofs.Common.{◌≡◌, ℕ, suc, ◌+◌, ◌≤◌, Bool, true, false, cond, List, [], ◌∷◌, filter, length, slice_get, bytes_eq, refl, sym, ◌∙◌, ap, arith}
use Rattle.std.specs.List.{list_any, position, position_from}
use Rattle.std.proofs.lemmas.Iterator.Adapters.{position_from-zero}
use Rattle.task_types.specs.declared.task_def.TaskDef.{TaskDef}
use Rattle.run_states.specs.Rows.{Row}
use Rattle.run_states.specs.Later.{RowsLater}
use Rattle.task_index.specs.declared.lists.TaskList.{TaskList}
use Rattle.task_index.specs.declared.lists.TaskList.TheVariants.{Group, Dependants}
use Rattle.task_index.specs.Lists.{is_listed, listed}
use Rattle.task_index.specs.Listing.{places_from, places_of}

-- ---- so many places as tasks

count-from : (test : Row → Bool) (from : ℕ) (rows : List Row) → length (places_from test from rows) ≡ length (filter test rows)
count-from test from [] = refl
count-from test from (row ∷ rows) = by (count-from test (from + 1) rows) (test row) refl where
  by : length (places_from test (from + 1) rows) ≡ length (filter test rows) → (b : Bool) → test row ≡ b → length (places_from test from (row ∷ rows)) ≡ length (filter test (row ∷ rows))
  by rest true is = rw is (ap suc rest)
  by rest false is = rw is rest

pub count-listed : (list : TaskList) (rows : List Row) → length (places_of list rows) ≡ length (listed list rows)
count-listed list rows = count-from (is_listed list) 0 rows

few-from : (test : Row → Bool) (from : ℕ) (rows : List Row) → length (places_from test from rows) ≤ length rows
few-from test from [] = omega arith
few-from test from (row ∷ rows) = by (few-from test (from + 1) rows) (test row) refl where
  by : length (places_from test (from + 1) rows) ≤ length rows → (b : Bool) → test row ≡ b → length (places_from test from (row ∷ rows)) ≤ length (row ∷ rows)
  by rest true is = rw is (omega arith)
  by rest false is = rw is (omega arith)

pub few-places : (list : TaskList) (rows : List Row) → length (places_of list rows) ≤ length rows
few-places list rows = few-from (is_listed list) 0 rows

-- ---- the first of a list stands at its first place

first-from : (test : Row → Bool) (from : ℕ) (rows : List Row) → slice_get (places_from test from rows) 0 ≡ position_from test from rows
first-from test from [] = refl
first-from test from (row ∷ rows) = by (first-from test (from + 1) rows) (test row) refl where
  by : slice_get (places_from test (from + 1) rows) 0 ≡ position_from test (from + 1) rows → (b : Bool) → test row ≡ b → slice_get (places_from test from (row ∷ rows)) 0 ≡ position_from test from (row ∷ rows)
  by rest true is = rw is refl
  by rest false is = rw is rest

pub first-place : (test : Row → Bool) (rows : List Row) → slice_get (places_from test 0 rows) 0 ≡ position test rows
first-place test rows = first-from test 0 rows ∙ sym (position_from-zero test rows)

-- where none passes there is no place
pub no-places : (test : Row → Bool) (from : ℕ) (rows : List Row) → list_any test rows ≡ false → places_from test from rows ≡ []
no-places test from [] none = refl
no-places test from (row ∷ rows) none = by (no-places test (from + 1) rows) (test row) refl where
  by : (list_any test rows ≡ false → places_from test (from + 1) rows ≡ []) → (b : Bool) → test row ≡ b → places_from test from (row ∷ rows) ≡ []
  by rest true is = let no_ : true ≡ false = rw is at none in cc
  by rest false is = rw is (rest (rw is at none))

-- ---- tasks that change keep their places

list-later : (list : TaskList) (row before : Row) → row.definition ≡ before.definition → is_listed list row ≡ is_listed list before
list-later list row before same = by list where
  by : (l : TaskList) → is_listed l row ≡ is_listed l before
  by (Group group) = ap (λ (d : TaskDef). bytes_eq d.task_group_id group) same
  by (Dependants id) = ap (λ (d : TaskDef). list_any (λ dependency. bytes_eq dependency id) d.dependencies) same

pub places-later : (list : TaskList) (from : ℕ) (before rows : List Row) → RowsLater before rows → length rows ≡ length before → places_from (is_listed list) from rows ≡ places_from (is_listed list) from before
places-later list from [] [] stay long = refl
places-later list from [] (r ∷ rows) stay long = absurd (omega arith)
places-later list from (b ∷ before) [] stay long = absurd stay
places-later list from (b ∷ before) (r ∷ rows) stay long =
    let rest : List ℕ = places_from (is_listed list) (from + 1) rows in
    ap (λ t. cond t (from ∷ rest) rest) (list-later list r b stay.0.definition)
    ∙ ap (λ (ps : List ℕ). cond (is_listed list b) (from ∷ ps) ps) (places-later list (from + 1) before rows stay.1 (omega arith))
