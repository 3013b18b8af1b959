-- What holds of the runs of tasks in every history of a farm: a run is claimed once, ends once, and is reported before the end of its claim, also
-- counted with the records that the farm was opened from.
use Rattle.std.specs.Prelude.{◌≡◌, ℕ, ◌+◌, ◌<◌, ◌≤◌, Bool, ◌&&◌, ◌==◌, List, ◌∷◌, ◌++◌, sum_by, count_by, Option, Some, None, is_some, option_and_then, slice_get, bytes_eq, if◌then◌else◌}
use Rattle.history.specs.Histories.{IsLegal, end_state}
use Rattle.task_types.specs.declared.change.Change.{Change}
use Rattle.task_types.specs.declared.change.Kind.{Kind}
use Rattle.task_types.specs.declared.change.Kind.TheVariants.{Claim as TakesRuns, Resolve}
use Rattle.task_types.specs.declared.change.Resolution.{Resolution}
use Rattle.task_types.specs.declared.change.RunName.{RunName}
use Rattle.run_states.specs.declared.run.Claim.{Claim}
use Rattle.run_states.specs.declared.run.Outcome.{Outcome}
use Rattle.run_states.specs.declared.run.Run.{Run}
use Rattle.task_index.specs.Contents.{Contents, row_with, HaveOwnIds}
use Rattle.farm_asks.specs.Questions.{Asking}
use Rattle.farm_machine.specs.Entry.{Entry, call, finished}
use Rattle.farm_machine.specs.Judgement.{Judgement}
use Rattle.farm_machine.specs.Laws.{Finished}
use Rattle.farm_machine.specs.Replay.{records_of, Restores}
use Rattle.farm_machine.specs.State.{State}
use Rattle.farm_machine.specs.Step.{farm_rules}
use Rattle.farm_asks.specs.Works.{at_moment}

-- two names are of one run
abbrev pub is_same_run : RunName → RunName → Bool
is_same_run a b = bytes_eq a.id b.id && (a.run == b.run)

-- how often a change claims a run
abbrev pub claims_by_kind : RunName → Kind → ℕ
claims_by_kind name (TakesRuns claim) = count_by (is_same_run name) claim.runs
claims_by_kind name kind = 0

abbrev pub claims_by : RunName → Option Change → ℕ
claims_by name None = 0
claims_by name (Some change) = claims_by_kind name change.kind

-- how often an entry does
abbrev pub claims_in : RunName → Entry → ℕ
claims_in name (call asking (finished judgement)) = claims_by name judgement.change
claims_in name entry = 0

-- the run of this name among some tasks, if there is one
abbrev pub run_among : RunName → Contents → Option Run
run_among name contents = option_and_then (λ row. slice_get row.runs name.run) (row_with name.id contents.rows)

-- the run of this name in a state
abbrev pub run_in : RunName → State → Option Run
run_in name state = run_among name state.contents

-- how many claims a run stands in, if it is there: one or none
abbrev pub claims_of : Option Run → ℕ
claims_of None = 0
claims_of (Some run) = if is_some run.claim then 1 else 0

-- One claim: a run that has no claim is claimed at most once in a legal history, and one that has a claim is not claimed again, where the tasks
-- had ids of their own (a farm's always have).
abbrev pub IsClaimedOnce : Type 0
IsClaimedOnce =
    (opening : State) (history : List Entry) (name : RunName) → HaveOwnIds opening.contents.rows → IsLegal farm_rules opening history
    → claims_of (run_in name opening) + sum_by (claims_in name) history ≤ 1

-- how often changes claim a run
abbrev pub claims_among : RunName → List Change → ℕ
claims_among name changes = sum_by (λ change. claims_by_kind name change.kind) changes

-- One claim since the first record: a run is claimed at most once in the records that restore an opening and in a legal history since.
abbrev pub IsClaimedOnceWithRecords : Type 0
IsClaimedOnceWithRecords =
    (opening : State) (records : List Change) (history : List Entry) (name : RunName)
    → Restores records opening.contents → IsLegal farm_rules opening history
    → claims_among name records + sum_by (claims_in name) history ≤ 1

-- One end: a run that ended, and with which outcome, stays so whatever comes.
abbrev pub EndsOnce : Type 0
EndsOnce =
    (opening : State) (before after : List Entry) (name : RunName) (run : Run) (outcome : Outcome)
    → IsLegal farm_rules opening (before ++ after)
    → run_in name (end_state farm_rules opening before) ≡ Some run → run.outcome ≡ Some outcome
    → (later : Run) × (run_in name (end_state farm_rules opening (before ++ after)) ≡ Some later) × (later.outcome ≡ Some outcome) × (later.claim ≡ run.claim)

-- One end since the first record: wherever the records that restore an opening are cut, a run that had ended in what the first of them leave has
-- the same outcome and the same claim at the end of each legal history since.
abbrev pub EndsOnceWithRecords : Type 0
EndsOnceWithRecords =
    (opening : State) (front rest : List Change) (earlier : Contents) (history : List Entry) (name : RunName) (run : Run) (outcome : Outcome)
    → Restores (front ++ rest) opening.contents → Restores front earlier → IsLegal farm_rules opening history
    → run_among name earlier ≡ Some run → run.outcome ≡ Some outcome
    → (later : Run) × (run_in name (end_state farm_rules opening history) ≡ Some later) × (later.outcome ≡ Some outcome) × (later.claim ≡ run.claim)

-- the run that a report is of
abbrev pub reported_run : Resolution → RunName
reported_run report = record { id = report.id; run = report.run }

-- how often a change reports a run
abbrev pub reports_by_kind : RunName → Kind → ℕ
reports_by_kind name (Resolve report) = if is_same_run name (reported_run report) then 1 else 0
reports_by_kind name kind = 0

-- how often changes do
abbrev pub reports_among : RunName → List Change → ℕ
reports_among name changes = sum_by (λ change. reports_by_kind name change.kind) changes

-- One report since the first record: of the records that restore an opening and those of a legal history since, at most one reports a run.
abbrev pub IsReportedOnceWithRecords : Type 0
IsReportedOnceWithRecords =
    (opening : State) (records : List Change) (history : List Entry) (name : RunName)
    → Restores records opening.contents → IsLegal farm_rules opening history
    → reports_among name (records ++ records_of history) ≤ 1

-- a report comes in time: its run stands in a claim and has not ended, and the end of that claim is still to come
abbrev pub IsInTime : Contents → ℕ → Resolution → Type 0
IsInTime contents at report =
    (run : Run) × (claim : Claim)
    × (run_among (reported_run report) contents ≡ Some run)
    × (run.outcome ≡ None) × (run.claim ≡ Some claim) × (at < claim.taken_until)

-- Before its end: in a farm that began from records (an empty one from none) a report ends a run only that had not ended, and only at a moment
-- before the end of its claim.
abbrev pub ReportsInTime : Type 0
ReportsInTime =
    (opening : State) (records : List Change) (before after : List Entry) (asking : Asking) (judgement : Judgement) (at : ℕ) (report : Resolution)
    → Restores records opening.contents
    → Finished opening before after asking judgement
    → judgement.change ≡ Some (at_moment at (Resolve report))
    → IsInTime (end_state farm_rules opening before).contents at report

-- Before its end since the first record: so did each report among the records that restore an opening, in what the records before it leave.
abbrev pub ReportsInTimeWithRecords : Type 0
ReportsInTimeWithRecords =
    (opening : State) (front rest : List Change) (earlier : Contents) (at : ℕ) (report : Resolution)
    → Restores (front ++ at_moment at (Resolve report) ∷ rest) opening.contents → Restores front earlier
    → IsInTime earlier at report
