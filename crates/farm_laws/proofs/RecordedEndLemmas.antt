-- Each run ends once, and is reported at most once, counted with the records that a farm was opened from.
use Rattle.std.proofs.Common.{◌≡◌, ℕ, zero, suc, ◌+◌, ◌≤◌, Bool, true, false, ◌==◌, cond, List, [], ◌∷◌, ◌++◌, Option, Some, None, is_some, option_and_then, slice_get, bytes_eq, nat_lt, refl, sym, ap, ◌∙◌, subst, arith}
use Rattle.std.specs.Option.{option_map_or}
use Rattle.std.proofs.lemmas.Bool.{and_parts, eqb-true}
use Rattle.std.proofs.lemmas.List.Sums.{sum_by-cons}
use Rattle.std.proofs.lemmas.Slice.Eq.{bytes_eq-Decides}
use Rattle.history.specs.Histories.{IsLegal, end_state}
use Rattle.task_types.specs.declared.change.Change.{Change}
use Rattle.task_types.specs.declared.change.Kind.{Kind}
use Rattle.task_types.specs.declared.change.Kind.TheVariants.{Tick, Create, Schedule, Rerun, Cancel, Claim as TakesRuns, Reclaim, Resolve}
use Rattle.task_types.specs.declared.change.Resolution.{Resolution}
use Rattle.task_types.specs.declared.change.RunName.{RunName}
use Rattle.run_states.specs.declared.reasons.ReasonCreated.{ReasonCreated}
use Rattle.run_states.specs.declared.reasons.ReasonResolved.{ReasonResolved}
use Rattle.run_states.specs.declared.run.Outcome.{Outcome}
use Rattle.run_states.specs.declared.run.Run.{Run}
use Rattle.run_states.specs.Later.{RunLater, RowsLater}
use Rattle.run_states.specs.Moves.{retried, followed, closed, resolved}
use Rattle.run_states.specs.Reasons.{retry_after}
use Rattle.run_states.specs.Rows.{Row, is_running_at}
use Rattle.run_states.specs.Runs.{is_running_run, pending_run, ended, change_at}
use Rattle.run_states.proofs.LaterLemmas.{resolved-later, RowsLater-refl, RowsLater-trans}
use Rattle.task_index.specs.Changes.{reason_of, after_kind, applied}
use Rattle.task_index.specs.Contents.{Contents, no_contents, row_with}
use Rattle.task_index.specs.Due.{advance}
use Rattle.task_index.specs.Ready.{settled}
use Rattle.task_index.proofs.AdvanceLemmas.{advance-stays}
use Rattle.task_index.proofs.IdLemmas.{applied-stays}
use Rattle.task_index.proofs.ReadyLemmas.{settled-stays}
use Rattle.farm_machine.specs.Entry.{Entry}
use Rattle.farm_machine.specs.Replay.{may_come, left_by, after_replay, replayed, records_of, Restores}
use Rattle.farm_machine.specs.RunLaws.{is_same_run, run_among, run_in, reported_run, reports_by_kind, reports_among}
use Rattle.farm_machine.specs.State.{State}
use Rattle.farm_machine.specs.Step.{farm_rules}
use Rattle.farm_asks.specs.Works.{at_moment}
use Rattle.farm_laws.proofs.ClaimLawLemmas.{one_if, one-few, found-changed}
use Rattle.farm_laws.proofs.InTimeLemmas.{Reports, reports-run, reported-there}
use Rattle.farm_laws.proofs.LastRunLemmas.{has_end, Runs}
use Rattle.farm_laws.proofs.OnceLemmas.{entries-stay}
use Rattle.farm_laws.proofs.RecordedClaimLemmas.{same-name}
use Rattle.farm_machine.proofs.ReplayLemmas.{replayed-append, records-restore}
use Rattle.farm_laws.proofs.RunLawLemmas.{found-run}
use Rattle.farm_laws.proofs.SoundLemmas.{Stays, left-holds, replayed-first, replay-holds}

-- ---- a run that ended stays so, whatever is replayed

-- each task is there later, and each run
later-stays : (rows : List Row) → Stays (λ contents. RowsLater rows contents.rows)
later-stays rows =
    record {
      by_tick = λ contents moment stays. RowsLater-trans rows contents.rows (advance contents moment).rows stays (advance-stays contents moment);
      by_change = λ contents change may stays. RowsLater-trans rows contents.rows (applied contents change).rows stays (applied-stays contents change);
    }

replay-stays : (contents last : Contents) (changes : List Change) → replayed contents changes ≡ Some last → RowsLater contents.rows last.rows
replay-stays contents last changes is =
    replay-holds (λ c. RowsLater contents.rows c.rows) (later-stays contents.rows) contents last changes is (RowsLater-refl contents.rows)

front-stays : (front rest : List Change) (earlier contents : Contents) → Restores (front ++ rest) contents → Restores front earlier → RowsLater earlier.rows contents.rows
front-stays front rest earlier contents all first =
    let behind : replayed first.reached rest ≡ Some all.reached = sym (replayed-append no_contents first.reached front rest first.replays) ∙ all.replays in
    let stays : RowsLater first.reached.rows all.reached.rows = replay-stays first.reached all.reached rest behind in
    subst (λ (rows : List Row). RowsLater rows contents.rows) first.rows (subst (λ (rows : List Row). RowsLater first.reached.rows rows) all.rows stays)

pub recorded-ends : (opening : State) (front rest : List Change) (earlier : Contents) (history : List Entry) (name : RunName) (run : Run) (outcome : Outcome) → Restores (front ++ rest) opening.contents → Restores front earlier → IsLegal farm_rules opening history
    → run_among name earlier ≡ Some run → run.outcome ≡ Some outcome
    → (later : Run) × (run_in name (end_state farm_rules opening history) ≡ Some later) × (later.outcome ≡ Some outcome) × (later.claim ≡ run.claim)
recorded-ends opening front rest earlier history name run outcome all first legal has ended_ =
    let now = (end_state farm_rules opening history).contents in
    let stays : RowsLater earlier.rows now.rows =
    RowsLater-trans earlier.rows opening.contents.rows now.rows (front-stays front rest earlier opening.contents all first) (entries-stay opening history) in
    let found = found-run name earlier.rows now.rows run stays (row_with name.id earlier.rows) refl has in
    (found.0, found.1, found.2.outcome outcome ended_, found.2.ended_claim outcome ended_)

-- ---- what has ended has ended later

-- the run of this name has ended
abbrev is_ended : RunName → Contents → Bool
is_ended name contents = option_map_or has_end (run_among name contents) false

end-more : (run later : Run) → RunLater run later → one_if (has_end run) ≤ one_if (has_end later)
end-more run later on = by run.outcome refl where
  by : (o : Option Outcome) → run.outcome ≡ o → one_if (is_some run.outcome) ≤ one_if (is_some later.outcome)
  by None is = rw is (omega arith)
  by (Some o) is = rw (is, on.outcome o is) (omega arith)

ends-more : (name : RunName) (contents later : Contents) → RowsLater contents.rows later.rows → one_if (is_ended name contents) ≤ one_if (is_ended name later)
ends-more name contents later stays = by (run_among name contents) refl where
  by : (o : Option Run) → run_among name contents ≡ o → one_if (is_ended name contents) ≤ one_if (is_ended name later)
  by None is =
      let none : one_if (is_ended name contents) ≡ 0 = ap (λ (o : Option Run). one_if (option_map_or has_end o false)) is in
      omega arith
  by (Some run) is =
      let found = found-run name contents.rows later.rows run stays (row_with name.id contents.rows) refl is in
      let before : one_if (is_ended name contents) ≡ one_if (has_end run) = ap (λ (o : Option Run). one_if (option_map_or has_end o false)) is in
      let behind : one_if (is_ended name later) ≡ one_if (has_end found.0) = ap (λ (o : Option Run). one_if (option_map_or has_end o false)) found.1 in
      let more : one_if (has_end run) ≤ one_if (has_end found.0) = end-more run found.0 found.2 in
      omega arith

-- ---- a run that is resolved has ended

at-changed : (f : Run → Run) (place : ℕ) (runs : List Run) (run : Run) → slice_get runs place ≡ Some run → slice_get (change_at place f runs) place ≡ Some (f run)
at-changed f place [] run is = cc
at-changed f zero (first ∷ runs) run is = let same : first ≡ run = cc in ap (λ (r : Run). Some (f r)) same
at-changed f (suc place) (first ∷ runs) run is = at-changed f place runs run is

at-more : (place : ℕ) (runs more : List Run) (run : Run) → slice_get runs place ≡ Some run → slice_get (runs ++ more) place ≡ Some run
at-more place [] more run is = cc
at-more zero (first ∷ runs) more run is = is
at-more (suc place) (first ∷ runs) more run is = at-more place runs more run is

at-followed : (created : Option ReasonCreated) (number at place : ℕ) (row : Row) (run : Run) → slice_get row.runs place ≡ Some run → slice_get (followed created number at row).runs place ≡ Some run
at-followed None number at place row run is = is
at-followed (Some created) number at place row run is = by (nat_lt 0 row.retries_left) refl where
  by : (b : Bool) → nat_lt 0 row.retries_left ≡ b → slice_get (retried created number at row).runs place ≡ Some run
  by true some_ = rw some_ (at-more place row.runs (pending_run created number at ∷ []) run is)
  by false none = rw none is

at-closed : (place : ℕ) (reason : ReasonResolved) (number at : ℕ) (row : Row) (run : Run) → slice_get row.runs place ≡ Some run → slice_get (closed place reason number at row).runs place ≡ Some (ended reason at run)
at-closed place reason number at row run is =
    at-followed (retry_after reason) number at place (record row { runs = change_at place (ended reason at) row.runs }) (ended reason at run)
    (at-changed (ended reason at) place row.runs run is)

at-resolved : (place : ℕ) (reason : ReasonResolved) (number at : ℕ) (row : Row) (one : Runs place row) → slice_get (resolved place reason number at row).runs place ≡ Some (ended reason at one.run)
at-resolved place reason number at row one =
    let running : is_running_at place row ≡ true = ap (λ (o : Option Run). option_map_or is_running_run o false) one.there ∙ one.running in
    rw running (at-closed place reason number at row one.run one.there)

-- ---- one record

same-run : (name other : RunName) → is_same_run name other ≡ true → name ≡ other
same-run name other is =
    let parts = and_parts (bytes_eq name.id other.id) (name.run == other.run) is in
    same-name name other ((bytes_eq-Decides name.id other.id).0 parts.0) (eqb-true name.run other.run parts.1)

-- a run that is reported had not ended
open-before : (contents : Contents) (report : Resolution) (reports : Reports contents report) → is_ended (reported_run report) contents ≡ false
open-before contents report reports = ap (λ (o : Option Run). option_map_or has_end o false) (reported-there contents report reports) ∙ reports.one.unended

-- and has ended behind it
ended-behind : (contents : Contents) (at : ℕ) (report : Resolution) → Reports contents report → 1 ≤ one_if (is_ended (reported_run report) (applied contents (at_moment at (Resolve report))))
unfolding applied
ended-behind contents at report reports =
    let name = reported_run report in
    let reason = reason_of report.reason in
    let ends = resolved report.run reason contents.next at in
    let now = after_kind contents at (Resolve report) in
    let found : row_with report.id now.rows ≡ Some (ends reports.row) =
    found-changed report.id ends (λ row. (resolved-later report.run reason contents.next at row).id) contents.rows reports.row reports.found in
    let there : run_among name now ≡ Some (ended reason at reports.one.run) =
    ap (option_and_then (λ (row : Row). slice_get row.runs report.run)) found ∙ at-resolved report.run reason contents.next at reports.row reports.one in
    let one : one_if (is_ended name now) ≡ 1 = ap (λ (o : Option Run). one_if (option_map_or has_end o false)) there in
    let more : one_if (is_ended name now) ≤ one_if (is_ended name (settled now at)) = ends-more name now (settled now at) (settled-stays now at) in
    omega arith

-- what a record reports had not ended, and has ended behind it
abbrev Ends : RunName → Contents → ℕ → Kind → Type 0
Ends name contents at kind = reports_by_kind name kind + one_if (is_ended name contents) ≤ one_if (is_ended name (left_by contents at kind))

resolve-ends : (name : RunName) (contents : Contents) (at : ℕ) (report : Resolution) → may_come contents at (Resolve report) ≡ true → Ends name contents at (Resolve report)
resolve-ends name contents at report may = by (is_same_run name (reported_run report)) refl where
  reports : Reports contents report
  reports = reports-run contents at report may

  after : Contents
  after = applied contents (at_moment at (Resolve report))

  by : (b : Bool) → is_same_run name (reported_run report) ≡ b → cond b 1 0 + one_if (is_ended name contents) ≤ one_if (is_ended name after)
  by true is =
      let same : reported_run report ≡ name = sym (same-run name (reported_run report) is) in
      let none : one_if (is_ended (reported_run report) contents) ≡ 0 = ap one_if (open-before contents report reports) in
      let one : 1 ≤ one_if (is_ended (reported_run report) after) = ended-behind contents at report reports in
      subst (λ (n : RunName). 1 + one_if (is_ended n contents) ≤ one_if (is_ended n after)) same (omega arith)
  by false is =
      let more : one_if (is_ended name contents) ≤ one_if (is_ended name after) = ends-more name contents after (applied-stays contents (at_moment at (Resolve report))) in
      omega arith

left-ends : (name : RunName) (contents : Contents) (at : ℕ) (kind : Kind) → may_come contents at kind ≡ true → Ends name contents at kind
left-ends name contents at kind may = by kind may where
  quiet : (kind : Kind) → may_come contents at kind ≡ true → reports_by_kind name kind ≡ 0 → Ends name contents at kind
  quiet kind may none =
      let stays = left-holds (λ c. RowsLater contents.rows c.rows) (later-stays contents.rows) contents at kind may (RowsLater-refl contents.rows) in
      let more : one_if (is_ended name contents) ≤ one_if (is_ended name (left_by contents at kind)) = ends-more name contents (left_by contents at kind) stays in
      omega arith

  by : (kind : Kind) → may_come contents at kind ≡ true → Ends name contents at kind
  by Tick may = quiet Tick may refl
  by (Create creation) may = quiet (Create creation) may refl
  by (Schedule id) may = quiet (Schedule id) may refl
  by (Rerun id) may = quiet (Rerun id) may refl
  by (Cancel id) may = quiet (Cancel id) may refl
  by (TakesRuns claim) may = quiet (TakesRuns claim) may refl
  by (Reclaim r) may = quiet (Reclaim r) may refl
  by (Resolve report) may = resolve-ends name contents at report may

-- ---- all records

replay-reports : (name : RunName) (contents last : Contents) (changes : List Change) → replayed contents changes ≡ Some last → reports_among name changes + one_if (is_ended name contents) ≤ one_if (is_ended name last)
replay-reports name contents last [] is =
    let same : contents ≡ last = cc in
    subst (λ (c : Contents). 0 + one_if (is_ended name contents) ≤ one_if (is_ended name c)) same (omega arith)
replay-reports name contents last (change ∷ changes) is =
    let parts = replayed-first contents last change changes is in
    let next = after_replay contents change in
    let here : reports_by_kind name change.kind + one_if (is_ended name contents) ≤ one_if (is_ended name next) = left-ends name contents change.at change.kind parts.0 in
    let others : reports_among name changes + one_if (is_ended name next) ≤ one_if (is_ended name last) = replay-reports name next last changes parts.1 in
    let sum : reports_among name (change ∷ changes) ≡ reports_by_kind name change.kind + reports_among name changes = sum_by-cons (λ (c : Change). reports_by_kind name c.kind) change changes in
    omega arith

pub reported-once : (opening : State) (records : List Change) (history : List Entry) (name : RunName) → Restores records opening.contents → IsLegal farm_rules opening history
    → reports_among name (records ++ records_of history) ≤ 1
reported-once opening records history name r legal =
    let all = records-restore opening records history r legal in
    let few : reports_among name (records ++ records_of history) + one_if (is_ended name no_contents) ≤ one_if (is_ended name all.reached) =
    replay-reports name no_contents all.reached (records ++ records_of history) all.replays in
    let one : one_if (is_ended name all.reached) ≤ 1 = one-few (is_ended name all.reached) in
    omega arith
