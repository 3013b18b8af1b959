-- A run that ended stays as it ended.
use Rattle.std.proofs.Common.{◌≡◌, ℕ, zero, suc, Bool, true, false, List, [], ◌∷◌, ◌++◌, Option, Some, None, option_and_then, slice_get, bytes_eq, refl, subst}
use Rattle.history.specs.Histories.{IsLegal, end_state}
use Rattle.history.proofs.HistoriesLemmas.{end_state-append}
use Rattle.task_types.specs.declared.change.RunName.{RunName}
use Rattle.run_states.specs.declared.run.Outcome.{Outcome}
use Rattle.run_states.specs.declared.run.Run.{Run}
use Rattle.run_states.specs.Rows.{Row}
use Rattle.run_states.specs.Later.{RunLater, RunsLater, RowLater, RowsLater}
use Rattle.task_index.specs.Contents.{row_with}
use Rattle.farm_machine.specs.Entry.{Entry}
use Rattle.farm_machine.specs.RunLaws.{run_in}
use Rattle.farm_machine.specs.State.{State}
use Rattle.farm_machine.specs.Step.{farm_rules}
use Rattle.farm_laws.proofs.OnceLemmas.{entries-stay}

-- a task is found later
row-later : (id : List ℕ) (rows later : List Row) (row : Row) → RowsLater rows later → row_with id rows ≡ Some row → (found : Row) × (row_with id later ≡ Some found) × RowLater row found
row-later id [] later row stays is = cc
row-later id (r ∷ rows) [] row stays is = absurd stays
row-later id (r ∷ rows) (s ∷ later) row stays is = by (row-later id rows later row stays.1) (bytes_eq r.id id) refl where
  by : (row_with id rows ≡ Some row → (found : Row) × (row_with id later ≡ Some found) × RowLater row found) → (test : Bool) → bytes_eq r.id id ≡ test → (found : Row) × (row_with id (s ∷ later) ≡ Some found) × RowLater row found
  by rest true same =
      let first : Some r ≡ Some row = rw same at is in
      let one : r ≡ row = cc in
      (s, rw (stays.0.id, same) refl, subst (λ (x : Row). RowLater x s) one stays.0)
  by rest false other =
      let found = rest (rw other at is) in
      (found.0, rw (stays.0.id, other) found.1, found.2)

-- and a run of it
run-later : (runs after : List Run) (number : ℕ) (run : Run) → RunsLater runs after → slice_get runs number ≡ Some run → (later : Run) × (slice_get after number ≡ Some later) × RunLater run later
run-later [] after number run stays is = cc
run-later (r ∷ runs) [] number run stays is = absurd stays
run-later (r ∷ runs) (s ∷ after) zero run stays is = let one : r ≡ run = cc in (s, refl, subst (λ (x : Run). RunLater x s) one stays.0)
run-later (r ∷ runs) (s ∷ after) (suc number) run stays is = run-later runs after number run stays.1 is

pub found-run : (name : RunName) (rows later : List Row) (run : Run) → RowsLater rows later → (row : Option Row) → row_with name.id rows ≡ row → option_and_then (λ (r : Row). slice_get r.runs name.run) row ≡ Some run
    → (found : Run) × (option_and_then (λ (r : Row). slice_get r.runs name.run) (row_with name.id later) ≡ Some found) × RunLater run found
found-run name rows later run stays None is has = cc
found-run name rows later run stays (Some row) is has =
    let task = row-later name.id rows later row stays is in
    let one = run-later row.runs task.0.runs name.run run task.2.runs has in
    (one.0, rw task.1 one.1, one.2)

pub ends-once : (opening : State) (before after : List Entry) (name : RunName) (run : Run) (outcome : Outcome) → IsLegal farm_rules opening (before ++ after)
    → run_in name (end_state farm_rules opening before) ≡ Some run → run.outcome ≡ Some outcome
    → (later : Run) × (run_in name (end_state farm_rules opening (before ++ after)) ≡ Some later) × (later.outcome ≡ Some outcome) × (later.claim ≡ run.claim)
ends-once opening before after name run outcome legal has ended =
    let state = end_state farm_rules opening before in
    let later = end_state farm_rules opening (before ++ after) in
    let stays : RowsLater state.contents.rows later.contents.rows = rw (end_state-append farm_rules opening before after) (entries-stay state after) in
    let found = found-run name state.contents.rows later.contents.rows run stays (row_with name.id state.contents.rows) refl has in
    (found.0, found.1, found.2.outcome outcome ended, found.2.ended_claim outcome ended)
