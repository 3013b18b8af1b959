-- What the calls of workers and managers of tasks do may be done, where nothing refuses them.
use Rattle.std.proofs.Common.{◌≡◌, ℕ, ◌<◌, ◌≤◌, ◌+◌, min, Bool, true, false, not, ◌&&◌, IsTrue, List, [], ◌∷◌, length, Option, Some, None, nat_le, nat_lt, refl, sym, ap, ◌∙◌, subst, inl, inr, arith}
use Rattle.std.proofs.lemmas.Bool.{le-leb, leb-false, lt-ltb}
use Rattle.farm_text.specs.Document.{document_text}
use Rattle.farm_text.specs.declared.moment.TheConstants.{LAST_TOLD_MOMENT}
use Rattle.task_types.specs.declared.change.Kind.{Kind}
use Rattle.task_types.specs.declared.change.Kind.TheVariants.{Schedule, Rerun, Cancel, Claim as TakesRuns, Reclaim, Resolve}
use Rattle.task_types.specs.declared.change.Resolution.{Resolution}
use Rattle.task_types.specs.declared.change.RunName.{RunName}
use Rattle.run_states.specs.Rows.{Row, is_unscheduled, is_resolved, is_running_at}
use Rattle.run_states.specs.Moves.{ended_for_at}
use Rattle.task_index.specs.Changes.{reason_of, may_keep, are_first, may_be, may_apply}
use Rattle.task_index.specs.Contents.{Contents, row_with, HaveOwnIds}
use Rattle.task_index.specs.Picks.{picks}
use Rattle.farm_rows.proofs.ShownLemmas.{picks-few, picks-first}
use Rattle.farm_machine.specs.declared.case.Done.TheVariants.{Reads, Changes}
use Rattle.farm_asks.specs.declared.config.Config.{Config}
use Rattle.farm_asks.specs.declared.question.WorkRequest.{WorkRequest}
use Rattle.farm_asks.specs.declared.reply.Answer.{Answer}
use Rattle.farm_machine.specs.Calls.CancelTask.{cancel_task}
use Rattle.farm_machine.specs.Calls.ClaimWork.{claim_work}
use Rattle.farm_machine.specs.Calls.ReclaimTask.{reclaim_task}
use Rattle.farm_machine.specs.Calls.ReportRun.{report_run}
use Rattle.farm_machine.specs.Calls.RerunTask.{rerun_task}
use Rattle.farm_machine.specs.Calls.ScheduleTask.{schedule_task}
use Rattle.farm_machine.specs.Absent.{absent_run}
use Rattle.farm_machine.specs.Case.{Setting, Deed, Rule, when, Case, passing, of_row, of_run, on_run, reading, IsFirstRule}
use Rattle.farm_machine.specs.Changes.{changed}
use Rattle.farm_asks.specs.Config.{claim_millis}
use Rattle.farm_machine.specs.Deeds.{IsReady, IsDeed}
use Rattle.farm_asks.specs.Replies.{tells_status, conflict}
use Rattle.farm_asks.specs.Works.{work_body, at_moment}

-- what is no truth is false
pub no_truth : (b : Bool) → ¬ IsTrue b → b ≡ false
no_truth true no_ = absurd (no_ refl)
no_truth false no_ = refl

pub no_not : (b : Bool) → ¬ IsTrue (not b) → b ≡ true
no_not true no_ = refl
no_not false no_ = absurd (no_ refl)

-- a rule that is passed, and those behind it
pub passed : (test : Bool) (answer : Answer) (rules : List Rule) → IsFirstRule (when test answer ∷ rules) None → (¬ IsTrue test) × IsFirstRule rules None
passed test answer rules (inl p) = let no_ = p.1 in cc
passed test answer rules (inr p) = p

-- where a call is ready, a change of a kind that may be is one that may be made
pub may-all : (at : Setting) (kind : Kind) → IsReady at → may_be at.state.contents at.moment kind ≡ true → may_apply at.state.contents (at_moment at.moment kind) ≡ true
may-all at kind ready be =
    rw (le-leb at.state.contents.last at.moment ready.later, le-leb at.moment LAST_TOLD_MOMENT ready.told, ready.nothing_due, be) refl

-- a claim lasts a second at least and a day at most
keep-may : (config : Config) (moment : ℕ) → may_keep moment (moment + claim_millis config) ≡ true
keep-may config moment =
    let less : moment < moment + claim_millis config = omega arith in
    let few : moment + claim_millis config ≤ moment + 86_400_000 = omega arith in
    rw (lt-ltb moment (moment + claim_millis config) less, le-leb (moment + claim_millis config) (moment + 86_400_000) few) refl

-- ---- a task

pub cancel-deed : (id : List ℕ) (at : Setting) → IsReady at → (cancel_task id at).absent ≡ None → IsFirstRule (cancel_task id at).rules None → IsDeed at (cancel_task id at).deed (Changes (Cancel id))
cancel-deed id at ready there unruled = by (row_with id at.state.contents.rows) refl where
  by : (o : Option Row) → row_with id at.state.contents.rows ≡ o → IsDeed at (cancel_task id at).deed (Changes (Cancel id))
  by None is = let none = rw is at there in cc
  by (Some row) is =
      let open_ : is_resolved row ≡ false = no_truth (is_resolved row) (passed (is_resolved row) _ [] (rw is at unruled)).0 in
      let be : may_be at.state.contents at.moment (Cancel id) ≡ true = rw (is, open_) refl in
      (rw is refl, λ free. may-all at (Cancel id) ready be)

pub schedule-deed : (id : List ℕ) (at : Setting) → IsReady at → (schedule_task id at).absent ≡ None → IsFirstRule (schedule_task id at).rules None → IsDeed at (schedule_task id at).deed (Changes (Schedule id))
schedule-deed id at ready there unruled = by (row_with id at.state.contents.rows) refl where
  by : (o : Option Row) → row_with id at.state.contents.rows ≡ o → IsDeed at (schedule_task id at).deed (Changes (Schedule id))
  by None is = let none = rw is at there in cc
  by (Some row) is =
      let free_ : is_unscheduled row ≡ true = no_not (is_unscheduled row) (passed (not (is_unscheduled row)) _ [] (rw is at unruled)).0 in
      let be : may_be at.state.contents at.moment (Schedule id) ≡ true = rw (is, free_) refl in
      (rw is refl, λ free. may-all at (Schedule id) ready be)

pub rerun-deed : (id : List ℕ) (at : Setting) → IsReady at → (rerun_task id at).absent ≡ None → IsFirstRule (rerun_task id at).rules None → IsDeed at (rerun_task id at).deed (Changes (Rerun id))
rerun-deed id at ready there unruled = by (row_with id at.state.contents.rows) refl where
  resolved_is : (a b : Bool) → ¬ IsTrue (not a && not b) → ¬ IsTrue a → b ≡ true
  resolved_is true b no_ other = absurd (other refl)
  resolved_is false true no_ other = refl
  resolved_is false false no_ other = absurd (no_ refl)

  by : (o : Option Row) → row_with id at.state.contents.rows ≡ o → IsDeed at (rerun_task id at).deed (Changes (Rerun id))
  by None is = let none = rw is at there in cc
  by (Some row) is =
      let first = passed (not (is_unscheduled row) && not (is_resolved row)) (tells_status row) (when (is_unscheduled row) (conflict 4 row) ∷ when (nat_le row.definition.deadline at.moment) (conflict 5 row) ∷ when (nat_le 50 (length row.runs)) (conflict 6 row) ∷ []) (rw is at unruled) in
      let second = passed (is_unscheduled row) (conflict 4 row) (when (nat_le row.definition.deadline at.moment) (conflict 5 row) ∷ when (nat_le 50 (length row.runs)) (conflict 6 row) ∷ []) first.1 in
      let third = passed (nat_le row.definition.deadline at.moment) (conflict 5 row) (when (nat_le 50 (length row.runs)) (conflict 6 row) ∷ []) second.1 in
      let fourth = passed (nat_le 50 (length row.runs)) _ [] third.1 in
      let ended : is_resolved row ≡ true = resolved_is (is_unscheduled row) (is_resolved row) first.0 second.0 in
      let before : nat_lt at.moment row.definition.deadline ≡ true =
      lt-ltb at.moment row.definition.deadline (leb-false row.definition.deadline at.moment (no_truth (nat_le row.definition.deadline at.moment) third.0)) in
      let few : nat_lt (length row.runs) 50 ≡ true = lt-ltb (length row.runs) 50 (leb-false 50 (length row.runs) (no_truth (nat_le 50 (length row.runs)) fourth.0)) in
      let be : may_be at.state.contents at.moment (Rerun id) ≡ true = rw (is, ended, before, few) refl in
      (rw is refl, λ free. may-all at (Rerun id) ready be)

-- ---- a run

pub reclaim-deed : (name : RunName) (at : Setting) → IsReady at → (reclaim_task name at).absent ≡ None → IsFirstRule (reclaim_task name at).rules None
    → IsDeed at (reclaim_task name at).deed (Changes (Reclaim (record { id = name.id; run = name.run; taken_until = at.moment + claim_millis at.state.config })))
reclaim-deed name at ready there unruled = by (row_with name.id at.state.contents.rows) refl where
  kind : Kind
  kind = Reclaim (record { id = name.id; run = name.run; taken_until = at.moment + claim_millis at.state.config })

  by : (o : Option Row) → row_with name.id at.state.contents.rows ≡ o → IsDeed at (reclaim_task name at).deed (Changes kind)
  by None is = let none = rw is at there in cc
  by (Some row) is = with_run (nat_lt name.run (length row.runs)) refl where
    with_run : (b : Bool) → nat_lt name.run (length row.runs) ≡ b → IsDeed at (reclaim_task name at).deed (Changes kind)
    with_run false few = let none = rw (is, few) at there in cc
    with_run true some =
        let running : is_running_at name.run row ≡ true = no_not (is_running_at name.run row) (passed (not (is_running_at name.run row)) (conflict 3 row) [] (rw (is, some) at unruled)).0 in
        let be : may_be at.state.contents at.moment kind ≡ true = rw (keep-may at.state.config at.moment, is, running) refl in
        (rw (is, some) refl, λ free. may-all at kind ready be)

pub report-deed : (report : Resolution) (at : Setting) → IsReady at → (report_run report at).absent ≡ None → IsFirstRule (report_run report at).rules None → IsDeed at (report_run report at).deed (Changes (Resolve report))
report-deed report at ready there unruled = by (row_with report.id at.state.contents.rows) refl where
  by : (o : Option Row) → row_with report.id at.state.contents.rows ≡ o → IsDeed at (report_run report at).deed (Changes (Resolve report))
  by None is = let none = rw is at there in cc
  by (Some row) is = with_run (nat_lt report.run (length row.runs)) refl where
    with_run : (b : Bool) → nat_lt report.run (length row.runs) ≡ b → IsDeed at (report_run report at).deed (Changes (Resolve report))
    with_run false few = let none = rw (is, few) at there in cc
    with_run true some =
        let first = passed (ended_for_at report.run (reason_of report.reason) row) (tells_status row) (when (not (is_running_at report.run row)) (conflict 3 row) ∷ []) (rw (is, some) at unruled) in
        let running : is_running_at report.run row ≡ true = no_not (is_running_at report.run row) (passed (not (is_running_at report.run row)) (conflict 3 row) [] first.1).0 in
        let be : may_be at.state.contents at.moment (Resolve report) ≡ true = rw (is, running) refl in
        (rw (is, some) refl, λ free. may-all at (Resolve report) ready be)

-- ---- the runs of a queue

-- the claim of these runs
abbrev taken : ℕ → WorkRequest → List RunName → Kind
taken until work names = TakesRuns (record { taken_until = until; worker_group = work.worker_group; worker_id = work.worker_id; runs = names })

pub claim-deed : (work : WorkRequest) (at : Setting) (names : List RunName) → IsReady at → HaveOwnIds at.state.contents.rows → names ≡ picks (min work.tasks 32) work.queue at.state.contents.rows → 1 ≤ length names → length names ≤ 32
    → IsDeed at (claim_work work at).deed (Changes (TakesRuns (record { taken_until = at.moment + claim_millis at.state.config; worker_group = work.worker_group; worker_id = work.worker_id; runs = names })))
claim-deed work at [] ready own is some few = absurd (omega (arith, some))
claim-deed work at (name ∷ names) ready own is some few =
    let until : ℕ = at.moment + claim_millis at.state.config in
    let first : are_first (name ∷ names) at.state.contents.rows ≡ true = picks-first (min work.tasks 32) work.queue at.state.contents.rows name names own (sym is) in
    let be : may_be at.state.contents at.moment (taken until work (name ∷ names)) ≡ true = rw (keep-may at.state.config at.moment, le-leb (length (name ∷ names)) 32 few, first) refl in
    (rw (← is) refl, λ free. may-all at (taken until work (name ∷ names)) ready be)

-- ---- where a run is not there

-- the answer where a run is not there does not depend on what is asked of it
pub absent-same : (name : RunName) (at : Setting) (each : Row → Case) → ((row : Row) → (each row).absent ≡ None) → (on_run name.id name.run at each).absent ≡ absent_run name at
absent-same name at each there = by (row_with name.id at.state.contents.rows) where
  by_run : (row : Row) (b : Bool) → (of_run name.id name.run each b row).absent ≡ (of_run name.id name.run (λ r. passing) b row).absent
  by_run row true = there row
  by_run row false = refl

  by : (o : Option Row) → (of_row name.id (λ row. of_run name.id name.run each (nat_lt name.run (length row.runs)) row) o).absent ≡ (of_row name.id (λ row. of_run name.id name.run (λ r. passing) (nat_lt name.run (length row.runs)) row) o).absent
  by None = refl
  by (Some row) = by_run row (nat_lt name.run (length row.runs))

-- where the runs that are next are no claim, there are none, and that is read
pub claim-none : (work : WorkRequest) (at : Setting) (names : List RunName) → names ≡ picks (min work.tasks 32) work.queue at.state.contents.rows → ¬ ((1 ≤ length names) × (length names ≤ 32)) → (claim_work work at).deed ≡ reading (λ contents. work_body [])
claim-none work at [] is no_ = rw (← is) refl
claim-none work at (name ∷ names) is no_ =
    let few = picks-few (min work.tasks 32) work.queue at.state.contents.rows in
    let same = ap length is in
    absurd (no_ (omega arith, omega arith))

-- ---- what a claim does, part by part

-- the runs that are next are taken
pub claim-does : (work : WorkRequest) (at : Setting) (contents : Contents) (names runs : List RunName) (most until : ℕ) (kind : Kind) → IsReady at → contents ≡ at.state.contents → HaveOwnIds contents.rows → most ≡ min work.tasks 32
    → names ≡ picks most work.queue contents.rows → runs ≡ names → 1 ≤ length names → length names ≤ 32 → until ≡ at.moment + claim_millis at.state.config
    → kind ≡ TakesRuns (record { taken_until = until; worker_group = work.worker_group; worker_id = work.worker_id; runs = runs }) → IsDeed at (claim_work work at).deed (Changes kind)
claim-does work at contents names runs most until kind ready here own most_is names_are runs_are some few until_is is =
    let own_ids : HaveOwnIds at.state.contents.rows = subst (λ (k : Contents). HaveOwnIds k.rows) here own in
    let picked : names ≡ picks (min work.tasks 32) work.queue at.state.contents.rows =
    names_are ∙ (ap (λ n. picks n work.queue contents.rows) most_is ∙ ap (λ (k : Contents). picks (min work.tasks 32) work.queue k.rows) here) in
    let kind_is : kind ≡ taken (at.moment + claim_millis at.state.config) work names = is ∙ (ap (λ u. taken u work runs) until_is ∙ ap (taken (at.moment + claim_millis at.state.config) work) runs_are) in
    subst (λ (k : Kind). IsDeed at (claim_work work at).deed (Changes k)) (sym kind_is) (claim-deed work at names ready own_ids picked some few)

-- where there are none, that is read
pub claim-reads : (work : WorkRequest) (at : Setting) (contents : Contents) (names : List RunName) (most : ℕ) (body : List ℕ) → contents ≡ at.state.contents → most ≡ min work.tasks 32 → names ≡ picks most work.queue contents.rows
    → ¬ ((1 ≤ length names) × (length names ≤ 32)) → body ≡ document_text (work_body []) → IsDeed at (claim_work work at).deed (Reads body)
claim-reads work at contents names most body here most_is names_are no_ is =
    let picked : names ≡ picks (min work.tasks 32) work.queue at.state.contents.rows =
    names_are ∙ (ap (λ n. picks n work.queue contents.rows) most_is ∙ ap (λ (k : Contents). picks (min work.tasks 32) work.queue k.rows) here) in
    subst (λ (d : Deed). (d.change ≡ None) × (body ≡ document_text (d.body (changed at.state.contents at.moment None)))) (sym (claim-none work at names picked no_)) (refl, is)
