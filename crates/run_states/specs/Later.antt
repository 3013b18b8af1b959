-- What stays of a task, whatever happens to it later.
use Rattle.std.specs.Prelude.{◌≡◌, ℕ, List, [], ◌∷◌, Some}
use Rattle.run_states.specs.declared.run.Claim.{Claim}
use Rattle.run_states.specs.declared.run.Outcome.{Outcome}
use Rattle.run_states.specs.declared.run.Run.{Run}
use Rattle.run_states.specs.Runs.{until}
use Rattle.run_states.specs.Rows.{Row}

-- a run later: it is made as it was made, a claim of it stays but for its end, and once it has an outcome, all of it stays
pub record RunLater (before after : Run) : Type 0 where
  pub created : after.created ≡ before.created
  pub number : after.number ≡ before.number
  pub scheduled : after.scheduled ≡ before.scheduled
  pub claim : (c : Claim) → before.claim ≡ Some c → (moment : ℕ) × (after.claim ≡ Some (until moment c))
  pub outcome : (o : Outcome) → before.outcome ≡ Some o → after.outcome ≡ Some o
  pub ended_claim : (o : Outcome) → before.outcome ≡ Some o → after.claim ≡ before.claim

-- each run is there later in its place, and more may follow
abbrev pub RunsLater : List Run → List Run → Type 0
RunsLater [] after = Unit {0}
RunsLater (run ∷ runs) [] = ⊥
RunsLater (run ∷ runs) (later ∷ after) = RunLater run later × RunsLater runs after

-- a task later: the same id and definition, and each run in its place
pub record RowLater (before after : Row) : Type 0 where
  pub id : after.id ≡ before.id
  pub definition : after.definition ≡ before.definition
  pub runs : RunsLater before.runs after.runs

-- each task is there later in its place, and more may follow
abbrev pub RowsLater : List Row → List Row → Type 0
RowsLater [] after = Unit {0}
RowsLater (row ∷ rows) [] = ⊥
RowsLater (row ∷ rows) (later ∷ after) = RowLater row later × RowsLater rows after
