-- A report ends a run only before the end of its claim.
use Rattle.std.proofs.Common.{◌≡◌, ℕ, ◌<◌, Bool, true, false, not, ◌&&◌, cond, List, [], ◌∷◌, ◌++◌, find, Option, Some, None, IfSome, is_some, is_none, option_map, option_and_then, slice_get, bytes_eq, nat_le, refl, sym, ap, ◌∙◌, subst}
use Rattle.std.specs.List.{last_or}
use Rattle.std.specs.Option.{option_map_or}
use Rattle.std.proofs.lemmas.Bool.{and_parts}
use Rattle.history.specs.Histories.{end_state}
use Rattle.farm_text.specs.declared.moment.TheConstants.{LAST_TOLD_MOMENT}
use Rattle.task_types.specs.declared.change.Change.{Change}
use Rattle.task_types.specs.declared.change.Kind.TheVariants.{Resolve}
use Rattle.task_types.specs.declared.change.Resolution.{Resolution}
use Rattle.run_states.specs.declared.run.Claim.{Claim}
use Rattle.run_states.specs.declared.run.Outcome.{Outcome}
use Rattle.run_states.specs.declared.run.Run.{Run}
use Rattle.run_states.specs.Runs.{is_running_run, run_due}
use Rattle.run_states.specs.Rows.{Row, is_running_at, claim_due}
use Rattle.task_index.specs.Changes.{may_be, may_apply}
use Rattle.task_index.specs.Contents.{Contents, no_contents, row_with}
use Rattle.task_index.specs.Due.{is_due}
use Rattle.farm_laws.proofs.EndLemmas.{before-end}
use Rattle.farm_asks.specs.Questions.{Asking}
use Rattle.farm_machine.specs.Entry.{Entry, call, finished}
use Rattle.farm_machine.specs.Judgement.{Judgement}
use Rattle.farm_machine.specs.Laws.{Finished}
use Rattle.farm_machine.specs.Replay.{replayed, Restores}
use Rattle.farm_machine.specs.RunLaws.{run_among, reported_run, IsInTime}
use Rattle.farm_machine.specs.State.{State}
use Rattle.farm_machine.specs.Step.{farm_rules}
use Rattle.farm_asks.specs.Works.{at_moment}
use Rattle.farm_laws.proofs.LastRunLemmas.{is_sound, are_sound, Runs, runs-at, open-last, entries-sound}
use Rattle.farm_laws.proofs.OnceLemmas.{entry-may}
use Rattle.farm_machine.proofs.ReplayLemmas.{replayed-append}
use Rattle.farm_laws.proofs.SoundLemmas.{replayed-first, replayed-sound, restored-sound}

-- ---- a report that may be applied is of a running run

-- the task of a report stands, and its run is running
pub record Reports (contents : Contents) (report : Resolution) : Type 0 where
  pub row : Row
  pub found : row_with report.id contents.rows ≡ Some row
  pub one : Runs report.run row

may-report : (contents : Contents) (at : ℕ) (report : Resolution) → may_apply contents (at_moment at (Resolve report)) ≡ true → option_map_or (is_running_at report.run) (row_with report.id contents.rows) false ≡ true
may-report contents at report may =
    let be : Bool = may_be contents at (Resolve report) in
    let later = (and_parts (nat_le contents.last at) (nat_le at LAST_TOLD_MOMENT && (not (is_due contents at) && be)) may).1 in
    let told = (and_parts (nat_le at LAST_TOLD_MOMENT) (not (is_due contents at) && be) later).1 in
    (and_parts (not (is_due contents at)) be told).1

pub reports-run : (contents : Contents) (at : ℕ) (report : Resolution) → may_apply contents (at_moment at (Resolve report)) ≡ true → Reports contents report
reports-run contents at report may = by (row_with report.id contents.rows) refl (may-report contents at report may) where
  by : (o : Option Row) → row_with report.id contents.rows ≡ o → option_map_or (is_running_at report.run) o false ≡ true → Reports contents report
  by None is running = cc
  by (Some row) is running = record { row = row; found = is; one = runs-at report.run row running }

-- the run of a report, where it stands
pub reported-there : (contents : Contents) (report : Resolution) (reports : Reports contents report) → run_among (reported_run report) contents ≡ Some reports.one.run
reported-there contents report reports = ap (option_and_then (λ (row : Row). slice_get row.runs report.run)) reports.found ∙ reports.one.there

-- ---- a running run is the last, so its claim falls due and a change comes before its end

-- a task that is found is sound, where all are
found-sound : (test : Row → Bool) (rows : List Row) (row : Row) → are_sound rows ≡ true → find test rows ≡ Some row → is_sound row ≡ true
found-sound test [] row all is = cc
found-sound test (first ∷ rows) row all is = by (found-sound test rows row) (test first) refl where
  parts : (is_sound first ≡ true) × (are_sound rows ≡ true)
  parts = and_parts (is_sound first) (are_sound rows) all

  by : (are_sound rows ≡ true → find test rows ≡ Some row → is_sound row ≡ true) → (b : Bool) → test first ≡ b → is_sound row ≡ true
  by rest true here =
      let same : Some first ≡ Some row = sym (ap (λ b. cond b (Some first) (find test rows)) here) ∙ is in
      let e : first ≡ row = cc in
      sym (ap is_sound e) ∙ parts.0
  by rest false here = rest parts.1 (sym (ap (λ b. cond b (Some first) (find test rows)) here) ∙ is)

-- a running run has a claim
some-claim : (claim : Option Claim) (outcome : Option Outcome) → (is_some claim && is_none outcome) ≡ true → (c : Claim) × (claim ≡ Some c)
some-claim None outcome is = cc
some-claim (Some c) outcome is = (c, refl)

-- and has not ended
none-ended : (claim : Option Claim) (outcome : Option Outcome) → (is_some claim && is_none outcome) ≡ true → outcome ≡ None
none-ended None outcome is = cc
none-ended (Some c) None is = refl
none-ended (Some c) (Some o) is = cc

run-ends : (run : Run) (claim : Claim) → is_running_run run ≡ true → run.claim ≡ Some claim → run_due run ≡ Some claim.taken_until
run-ends run claim running has =
    ap (λ b. cond b (option_map (λ (c : Claim). c.taken_until) run.claim) None) running ∙ ap (option_map (λ (c : Claim). c.taken_until)) has

pub report-in-time : (contents : Contents) (at : ℕ) (report : Resolution) → are_sound contents.rows ≡ true → may_apply contents (at_moment at (Resolve report)) ≡ true → IsInTime contents at report
report-in-time contents at report all may =
    let reports = reports-run contents at report may in
    let row = reports.row in
    let one = reports.one in
    let claim = some-claim one.run.claim one.run.outcome one.running in
    let sound = found-sound (λ (r : Row). bytes_eq r.id report.id) contents.rows row all reports.found in
    let last : last_or None row.runs ≡ Some one.run = open-last row.runs report.run one.run sound one.there one.unended in
    let due : claim_due row ≡ Some claim.0.taken_until = ap (option_and_then run_due) last ∙ run-ends one.run claim.0 one.running claim.1 in
    let in_time : at < claim.0.taken_until = before-end contents (at_moment at (Resolve report)) report.id row claim.0.taken_until may reports.found due in
    (one.run, claim.0, reported-there contents report reports, none-ended one.run.claim one.run.outcome one.running, claim.1, in_time)

-- ---- in a history, and among the records before it

pub reports-in-time : (opening : State) (records : List Change) (before after : List Entry) (asking : Asking) (judgement : Judgement) (at : ℕ) (report : Resolution) → Restores records opening.contents → Finished opening before after asking judgement → judgement.change ≡ Some (at_moment at (Resolve report))
    → IsInTime (end_state farm_rules opening before).contents at report
reports-in-time opening records before after asking judgement at report restored is change =
    let contents = (end_state farm_rules opening before).contents in
    let may = entry-may opening before after (call asking (finished judgement)) is.legal in
    let P : Option Change → Type 0 = λ o. IfSome o (λ (c : Change). may_apply contents c ≡ true) in
    report-in-time contents at report (entries-sound opening before (restored-sound records opening.contents restored)) (subst P change may.became.applies)

pub recorded-in-time : (opening : State) (front rest : List Change) (earlier : Contents) (at : ℕ) (report : Resolution) → Restores (front ++ at_moment at (Resolve report) ∷ rest) opening.contents → Restores front earlier → IsInTime earlier at report
recorded-in-time opening front rest earlier at report all first =
    let change = at_moment at (Resolve report) in
    let behind : replayed first.reached (change ∷ rest) ≡ Some all.reached = sym (replayed-append no_contents first.reached front (change ∷ rest) first.replays) ∙ all.replays in
    let may = (replayed-first first.reached all.reached change rest behind).0 in
    let in_time : IsInTime first.reached at report = report-in-time first.reached at report (replayed-sound front first.reached first.replays) may in
    (in_time.0, in_time.1, ap (λ (rows : List Row). option_and_then (λ (row : Row). slice_get row.runs report.run) (row_with report.id rows)) (sym first.rows) ∙ in_time.2, in_time.3, in_time.4, in_time.5)
