-- Each run is claimed at most once.
use Rattle.std.proofs.Common.{◌≡◌, ℕ, zero, suc, ◌+◌, ◌-◌, ◌≤◌, Bool, true, false, ◌&&◌, ◌==◌, cond, List, [], ◌∷◌, map, length, Option, Some, None, Ok, Err, is_some, is_none, option_map, option_and_then, slice_get, bytes_eq, nat_lt, min, sum_by, count_by, refl, sym, ap, ◌∙◌, subst, arith}
use Rattle.std.specs.List.{last_or, AllByRecursion, IsDistinct}
use Rattle.std.specs.Option.{option_map_or}
use Rattle.std.proofs.lemmas.Bool.{and_parts, eqb-true}
use Rattle.std.proofs.lemmas.List.Sums.{sum_by-cons}
use Rattle.std.proofs.lemmas.Slice.Eq.{bytes_eq-Decides}
use Rattle.history.specs.Histories.{IsLegal}
use Rattle.task_types.specs.declared.names.TaskQueue.{TaskQueue}
use Rattle.task_types.specs.declared.change.Change.{Change}
use Rattle.task_types.specs.declared.change.Claim.{Claim as TakenRuns}
use Rattle.task_types.specs.declared.change.Creation.{Creation}
use Rattle.task_types.specs.declared.change.Kind.{Kind}
use Rattle.task_types.specs.declared.change.Kind.TheVariants.{Tick, Create, Schedule, Rerun, Cancel, Claim as TakesRuns, Reclaim, Resolve}
use Rattle.task_types.specs.declared.change.RunName.{RunName}
use Rattle.run_states.specs.declared.run.Claim.{Claim}
use Rattle.run_states.specs.declared.run.Outcome.{Outcome}
use Rattle.run_states.specs.declared.run.Run.{Run}
use Rattle.run_states.specs.Runs.{is_pending_run, taken, change_last}
use Rattle.run_states.specs.Rows.{Row, is_pending, new_row, scheduled}
use Rattle.run_states.specs.Moves.{claimed, reclaimed, canceled, resolved, run_again}
use Rattle.run_states.specs.Later.{RunLater, RowsLater}
use Rattle.run_states.proofs.LaterLemmas.{scheduled-later, again-later, claimed-later, canceled-later, reclaimed-later, resolved-later}
use Rattle.run_states.proofs.RunLemmas.{get-last, last-change}
use Rattle.task_index.specs.Changes.{has_id, reason_of, change_row, claim_of, all_claimed, after_kind, changed as with_rows, applied}
use Rattle.task_index.specs.Ready.{settled}
use Rattle.task_index.specs.Contents.{Contents, row_with, HaveOwnIds}
use Rattle.task_index.specs.Picks.{is_same_queue, without, last_name, pick, picks}
use Rattle.task_index.proofs.AdvanceLemmas.{advance-ids}
use Rattle.task_index.proofs.DueLemmas.{change-stays, change-ids}
use Rattle.task_index.proofs.IdLemmas.{created-ids, claimed-ids, after-holds}
use Rattle.task_index.proofs.ReadyLemmas.{settled-stays, settled-ids}
use Rattle.farm_rows.proofs.ShownLemmas.{pick-one}
use Rattle.farm_asks.specs.declared.question.Call.{Call}
use Rattle.farm_asks.specs.declared.question.Call.TheVariants.{NoRoute, BadParameter, BadBody, Ping, Task, Status, ListTaskGroup, ListDependentTasks, PendingTasks, CreateTask, ClaimWork, ReclaimTask, ReportRun, ScheduleTask, RerunTask, CancelTask, TriggerHook}
use Rattle.farm_asks.specs.declared.question.WorkRequest.{WorkRequest}
use Rattle.farm_machine.specs.Calls.ClaimWork.{taking}
use Rattle.farm_machine.specs.Calls.TriggerHook.{Fired, case_after}
use Rattle.farm_machine.specs.Case.{Setting, Case}
use Rattle.farm_machine.specs.Changes.{changed, moment_of}
use Rattle.farm_asks.specs.Config.{claim_millis}
use Rattle.farm_asks.specs.Questions.{Asking}
use Rattle.farm_machine.specs.Entry.{Entry, tick, call, finished, out_of_memory, disk_failed, was_halted}
use Rattle.farm_machine.specs.Judgement.{Judgement}
use Rattle.farm_machine.specs.Laws.{creation_of, creation_of_kind}
use Rattle.farm_machine.specs.Order.{case_of}
use Rattle.farm_machine.specs.RunLaws.{is_same_run, claims_by, claims_in, run_in, claims_of}
use Rattle.farm_machine.specs.State.{State}
use Rattle.farm_machine.specs.Step.{lawful, after, farm_rules}
use Rattle.farm_machine.specs.Verdict.{form_of, setting_of, IsVerdict}
use Rattle.farm_asks.specs.Works.{at_moment}
use Rattle.farm_machine.proofs.ChangeLemmas.{IsOf, IsDoneBy, change-done, verdict-creates}
use Rattle.farm_laws.proofs.DeedLemmas.{each-task, each-run}
use Rattle.farm_laws.proofs.OnceLemmas.{changed-stays, entry-stays}
use Rattle.farm_laws.proofs.RunLawLemmas.{found-run}

-- ---- a run that has a claim keeps one

abbrev pub one_if : Bool → ℕ
one_if b = cond b 1 0

pub one-few : (b : Bool) → one_if b ≤ 1
one-few true = omega arith
one-few false = omega arith

-- the run of this name, if there is one
abbrev run_of : RunName → List Row → Option Run
run_of name rows = option_and_then (λ (row : Row). slice_get row.runs name.run) (row_with name.id rows)

abbrev claim_in : Option Run → Bool
claim_in run = option_map_or (λ (r : Run). is_some r.claim) run false

-- the run of this name has a claim
abbrev pub has_claim : RunName → List Row → Bool
has_claim name rows = claim_in (run_of name rows)

claim-more : (run later : Run) → RunLater run later → one_if (is_some run.claim) ≤ one_if (is_some later.claim)
claim-more run later on = by run.claim refl where
  by : (k : Option Claim) → run.claim ≡ k → one_if (is_some run.claim) ≤ one_if (is_some later.claim)
  by None is = rw is (omega arith)
  by (Some c) is = rw (is, (on.claim c is).1) (omega arith)

pub claim-stays : (name : RunName) (rows later : List Row) → RowsLater rows later → one_if (has_claim name rows) ≤ one_if (has_claim name later)
claim-stays name rows later stays = by (run_of name rows) refl where
  by : (o : Option Run) → run_of name rows ≡ o → one_if (has_claim name rows) ≤ one_if (has_claim name later)
  by None is =
      let none : one_if (has_claim name rows) ≡ 0 = ap (λ (o : Option Run). one_if (claim_in o)) is in
      omega arith
  by (Some run) is =
      let found = found-run name rows later run stays (row_with name.id rows) refl is in
      let before : one_if (has_claim name rows) ≡ one_if (is_some run.claim) = ap (λ (o : Option Run). one_if (claim_in o)) is in
      let behind : one_if (has_claim name later) ≡ one_if (is_some found.0.claim) = ap (λ (o : Option Run). one_if (claim_in o)) found.1 in
      let more : one_if (is_some run.claim) ≤ one_if (is_some found.0.claim) = claim-more run found.0 found.2 in
      omega arith

-- ---- a task that is found, and is changed

keeps-claimed : (claim : Claim) (row : Row) → (claimed claim row).id ≡ row.id
keeps-claimed claim row = (claimed-later claim row).id

pub found-changed : (id : List ℕ) (f : Row → Row) → ((row : Row) → (f row).id ≡ row.id) → (rows : List Row) (r : Row) → row_with id rows ≡ Some r → row_with id (change_row id f rows) ≡ Some (f r)
found-changed id f keeps [] r is = cc
found-changed id f keeps (row ∷ rows) r is = by (found-changed id f keeps rows r) (bytes_eq row.id id) refl where
  by : (row_with id rows ≡ Some r → row_with id (change_row id f rows) ≡ Some (f r)) → (b : Bool) → bytes_eq row.id id ≡ b → row_with id (change_row id f (row ∷ rows)) ≡ Some (f r)
  by rest true same =
      let here : Some row ≡ Some r = rw same at is in
      let one : row ≡ r = cc in
      let later : bytes_eq (f row).id id ≡ true = ap (λ i. bytes_eq i id) (keeps row) ∙ same in
      rw (same, later) (ap (λ (x : Row). Some (f x)) one)
  by rest false other = rw (other, other) (rest (rw other at is))

-- a task with another id stays
found-other : (id other : List ℕ) (f : Row → Row) → ((row : Row) → (f row).id ≡ row.id) → bytes_eq other id ≡ false → (rows : List Row) → row_with other (change_row id f rows) ≡ row_with other rows
found-other id other f keeps no_ [] = refl
found-other id other f keeps no_ (row ∷ rows) = by (found-other id other f keeps no_ rows) (bytes_eq row.id id) refl (bytes_eq row.id other) refl where
  by : row_with other (change_row id f rows) ≡ row_with other rows → (b : Bool) → bytes_eq row.id id ≡ b → (d : Bool) → bytes_eq row.id other ≡ d → row_with other (change_row id f (row ∷ rows)) ≡ row_with other (row ∷ rows)
  by rest true is true too =
      let same : row.id ≡ id = (bytes_eq-Decides row.id id).0 is in
      let same_too : row.id ≡ other = (bytes_eq-Decides row.id other).0 too in
      let both : bytes_eq other id ≡ true = (bytes_eq-Decides other id).1 (sym same_too ∙ same) in
      cc
  by rest true is false too =
      let later : bytes_eq (f row).id other ≡ false = ap (λ i. bytes_eq i other) (keeps row) ∙ too in
      rw (is, later, too) refl
  by rest false is true too = rw (is, too) refl
  by rest false is false too = rw (is, too) rest

-- ---- the claim of one run

-- the last run of a pending task has no claim
pending-last : (last : Option Run) → option_map_or is_pending_run last false ≡ true → (run : Run) × (last ≡ Some run) × (run.claim ≡ None)
pending-last None is = cc
pending-last (Some run) is = (run, refl, unclaimed run.claim run.outcome is) where
  unclaimed : (claim : Option Claim) (outcome : Option Outcome) → (is_none claim && is_none outcome) ≡ true → claim ≡ None
  unclaimed None outcome is = refl
  unclaimed (Some c) outcome is = cc

length-last : {A : Type 0} (f : A → A) (xs : List A) → length (change_last f xs) ≡ length xs
length-last f [] = refl
length-last f (x ∷ []) = refl
length-last f (x ∷ y ∷ ys) = let e = length-last f (y ∷ ys) in omega arith

-- a run that is taken: it had no claim, and has one
record Taken (name : RunName) (claim : Claim) (rows : List Row) (row : Row) : Type 0 where
  before : has_claim name rows ≡ false
  behind : has_claim name (change_row row.id (claimed claim) rows) ≡ true

is-taken : (name : RunName) (claim : Claim) (rows : List Row) (row : Row) → row_with row.id rows ≡ Some row → is_pending row ≡ true → is_same_run name (last_name row) ≡ true → Taken name claim rows row
is-taken name claim rows row found pending same =
    let parts = and_parts (bytes_eq name.id row.id) (name.run == length row.runs - 1) same in
    let id_is : name.id ≡ row.id = (bytes_eq-Decides name.id row.id).0 parts.0 in
    let run_is : name.run ≡ length row.runs - 1 = eqb-true name.run (length row.runs - 1) parts.1 in
    let last = pending-last (last_or None row.runs) pending in
    let next : List Row = change_row row.id (claimed claim) rows in
    let new : Row = claimed claim row in
    let here : row_with name.id rows ≡ Some row = ap (λ (i : List ℕ). row_with i rows) id_is ∙ found in
    let there : row_with name.id next ≡ Some new = ap (λ (i : List ℕ). row_with i next) id_is ∙ found-changed row.id (claimed claim) (keeps-claimed claim) rows row found in
    let run : slice_get row.runs name.run ≡ Some last.0 = ap (slice_get row.runs) run_is ∙ (get-last row.runs ∙ last.1) in
    let runs : new.runs ≡ change_last (taken claim) row.runs = ap (λ b. let r : Row = cond b (record row { runs = change_last (taken claim) row.runs }) row in r.runs) pending in
    let place : name.run ≡ length (change_last (taken claim) row.runs) - 1 = run_is ∙ ap (λ n. n - 1) (sym (length-last (taken claim) row.runs)) in
    let now : slice_get new.runs name.run ≡ Some (taken claim last.0) =
    ap (λ (rs : List Run). slice_get rs name.run) runs
    ∙ (ap (slice_get (change_last (taken claim) row.runs)) place ∙ (get-last (change_last (taken claim) row.runs) ∙ (last-change (taken claim) row.runs ∙ ap (option_map (taken claim)) last.1))) in
    let of_row : (o : Option Row) → Option Run = λ o. option_and_then (λ (r : Row). slice_get r.runs name.run) o in
    record {
      before = ap claim_in (ap of_row here ∙ run) ∙ ap is_some last.2;
      behind = ap claim_in (ap of_row there ∙ now);
    }

one-taken : (name : RunName) (claim : Claim) (rows : List Row) (row : Row) → row_with row.id rows ≡ Some row → is_pending row ≡ true
    → one_if (is_same_run name (last_name row)) + one_if (has_claim name rows) ≤ one_if (has_claim name (change_row row.id (claimed claim) rows))
one-taken name claim rows row found pending = by (is_same_run name (last_name row)) refl where
  next : List Row
  next = change_row row.id (claimed claim) rows

  by : (b : Bool) → is_same_run name (last_name row) ≡ b → one_if (is_same_run name (last_name row)) + one_if (has_claim name rows) ≤ one_if (has_claim name (change_row row.id (claimed claim) rows))
  by true is =
      let took = is-taken name claim rows row found pending is in
      let one : one_if (is_same_run name (last_name row)) ≡ 1 = ap one_if is in
      let none : one_if (has_claim name rows) ≡ 0 = ap one_if took.before in
      let some_ : one_if (has_claim name (change_row row.id (claimed claim) rows)) ≡ 1 = ap one_if took.behind in
      omega arith
  by false is =
      let none : one_if (is_same_run name (last_name row)) ≡ 0 = ap one_if is in
      let more : one_if (has_claim name rows) ≤ one_if (has_claim name (change_row row.id (claimed claim) rows)) =
      claim-stays name rows (change_row row.id (claimed claim) rows) (change-stays (has_id row.id) (claimed claim) (claimed-later claim) rows) in
      omega arith

-- ---- the claim of the runs that are picked

-- a task is found by its id
abbrev Stands : List Row → Row → Type 0
Stands rows row = row_with row.id rows ≡ Some row

-- the others are found once one is changed
stand-next : (f : Row → Row) → ((row : Row) → (f row).id ≡ row.id) → (id : List ℕ) (rows some_ : List Row) → AllByRecursion (Stands rows) some_ → AllByRecursion (Stands (change_row id f rows)) (without id some_)
stand-next f keeps id rows [] all = tt
stand-next f keeps id rows (row ∷ more) all = by (stand-next f keeps id rows more all.1) (bytes_eq row.id id) refl where
  by : AllByRecursion (Stands (change_row id f rows)) (without id more) → (b : Bool) → bytes_eq row.id id ≡ b → AllByRecursion (Stands (change_row id f rows)) (without id (row ∷ more))
  by rest true is = rw is rest
  by rest false is = rw is (found-other id row.id f keeps is rows ∙ all.0, rest)

pub picks-taken : (count : ℕ) (queue : TaskQueue) (some_ rows : List Row) (claim : Claim) (name : RunName) → AllByRecursion (Stands rows) some_
    → count_by (is_same_run name) (picks count queue some_) + one_if (has_claim name rows) ≤ one_if (has_claim name (all_claimed claim (picks count queue some_) rows))
picks-taken zero queue some_ rows claim name all = omega arith
picks-taken (suc count) queue some_ rows claim name all = by (λ others later standing. picks-taken count queue others later claim name standing) (pick queue some_) refl where
  by : ((others later : List Row) → AllByRecursion (Stands later) others → count_by (is_same_run name) (picks count queue others) + one_if (has_claim name later) ≤ one_if (has_claim name (all_claimed claim (picks count queue others) later)))
      → (o : Option Row) → pick queue some_ ≡ o
      → count_by (is_same_run name) (picks (suc count) queue some_) + one_if (has_claim name rows) ≤ one_if (has_claim name (all_claimed claim (picks (suc count) queue some_) rows))
  by more None is = rw is (omega arith)
  by more (Some row) is =
      let one = pick-one (Stands rows) queue some_ row all is in
      let pending = (and_parts (is_pending row) (is_same_queue row.definition.queue queue) one.0).0 in
      let next : List Row = change_row row.id (claimed claim) rows in
      let others : List RunName = picks count queue (without row.id some_) in
      let here : one_if (is_same_run name (last_name row)) + one_if (has_claim name rows) ≤ one_if (has_claim name next) = one-taken name claim rows row one.1 pending in
      let rest : count_by (is_same_run name) others + one_if (has_claim name next) ≤ one_if (has_claim name (all_claimed claim others next)) =
      more (without row.id some_) next (stand-next (claimed claim) (keeps-claimed claim) row.id rows some_ all) in
      let sum : count_by (is_same_run name) (last_name row ∷ others) ≡ one_if (is_same_run name (last_name row)) + count_by (is_same_run name) others =
      sum_by-cons (λ (n : RunName). cond (is_same_run name n) 1 0) (last_name row) others in
      let both : count_by (is_same_run name) (last_name row ∷ others) + one_if (has_claim name rows) ≤ one_if (has_claim name (all_claimed claim others next)) = omega arith in
      rw is both

-- each task with an id of its own is found
stand-more : (first : Row) (rows more : List Row) → AllByRecursion (λ id. bytes_eq first.id id ≡ false) (map (λ row. row.id) more) → AllByRecursion (Stands rows) more → AllByRecursion (Stands (first ∷ rows)) more
stand-more first rows [] other all = tt
stand-more first rows (row ∷ more) other all = (rw (other.0) all.0, stand-more first rows more other.1 all.1)

pub each-stands : (rows : List Row) → HaveOwnIds rows → AllByRecursion (Stands rows) rows
unfolding IsDistinct
each-stands [] own = tt
each-stands (row ∷ rows) own =
    let same : bytes_eq row.id row.id ≡ true = (bytes_eq-Decides row.id row.id).1 refl in
    (rw same refl, stand-more row rows rows own.0 (each-stands rows own.1))

-- ---- what each call claims

-- what a change claims had no claim, and has one behind it
abbrev pub Claims : RunName → Contents → ℕ → Option Change → Type 0
Claims name contents moment change = claims_by name change + one_if (has_claim name contents.rows) ≤ one_if (has_claim name (changed contents moment change).rows)

claims-none : (name : RunName) (contents : Contents) (moment : ℕ) → Claims name contents moment None
claims-none name contents moment = omega arith

-- a change that claims nothing
pub claims-some : (name : RunName) (contents : Contents) (moment : ℕ) (change : Change) → claims_by name (Some change) ≡ 0 → Claims name contents moment (Some change)
claims-some name contents moment change nothing =
    let more : one_if (has_claim name contents.rows) ≤ one_if (has_claim name (changed contents moment (Some change)).rows) =
    claim-stays name contents.rows (changed contents moment (Some change)).rows (changed-stays contents moment (Some change)) in
    omega arith

pub at-most : (a b c d : ℕ) → a + b ≤ c → c ≤ d → a + b ≤ d
at-most a b c d first second = omega arith

-- what is claimed stays so, as the tasks settle
pub taken-more : (name : RunName) (contents : Contents) (at : ℕ) (claim : TakenRuns)
    → one_if (has_claim name (all_claimed (claim_of at claim) claim.runs contents.rows)) ≤ one_if (has_claim name (applied contents (at_moment at (TakesRuns claim))).rows)
unfolding applied
taken-more name contents at claim =
    let taken_ = with_rows contents at (all_claimed (claim_of at claim) claim.runs contents.rows) 0 in
    claim-stays name taken_.rows (settled taken_ at).rows (settled-stays taken_ at)

claims-work : (name : RunName) (contents : Contents) (moment until : ℕ) (work : WorkRequest) (names : List RunName) → HaveOwnIds contents.rows → names ≡ picks (min work.tasks 32) work.queue contents.rows → Claims name contents moment (taking moment until work names).change
claims-work name contents moment until work [] own is = claims-none name contents moment
claims-work name contents moment until work (first ∷ names) own is =
    let claim : TakenRuns = record { taken_until = until; worker_group = work.worker_group; worker_id = work.worker_id; runs = first ∷ names } in
    let fact = picks-taken (min work.tasks 32) work.queue contents.rows contents.rows (claim_of moment claim) name (each-stands contents.rows own) in
    let here : count_by (is_same_run name) (first ∷ names) + one_if (has_claim name contents.rows) ≤ one_if (has_claim name (all_claimed (claim_of moment claim) (first ∷ names) contents.rows)) =
    subst (λ (ns : List RunName). count_by (is_same_run name) ns + one_if (has_claim name contents.rows) ≤ one_if (has_claim name (all_claimed (claim_of moment claim) ns contents.rows))) (sym is) fact in
    at-most _ _ _ _ here (taken-more name contents moment claim)

-- what a case claims, its judgement does
done-claims : (name : RunName) (at : Setting) (case : Case) (judgement : Judgement) → IsOf at judgement case → Claims name at.state.contents at.moment case.deed.change → Claims name at.state.contents at.moment judgement.change
done-claims name at case judgement (unruled, is) claims = subst (Claims name at.state.contents at.moment) (sym (ap (λ (j : Judgement). j.change) is)) claims

-- what comes of a hook claims nothing
after-claims : (name : RunName) (at : Setting) (fired : Fired) → Claims name at.state.contents at.moment (case_after fired at).deed.change
after-claims name at (Ok creation) = claims-some name at.state.contents at.moment (at_moment at.moment (Create creation)) refl
after-claims name at (Err answer) = claims-none name at.state.contents at.moment

call-claims : (name : RunName) (at : Setting) (asked : Call) (judgement : Judgement) → HaveOwnIds at.state.contents.rows → IsDoneBy at judgement (form_of asked) → Claims name at.state.contents at.moment judgement.change
call-claims name at (NoRoute route) judgement own done_so = done-claims name at (case_of (form_of (NoRoute route)) at) judgement done_so (claims-none name at.state.contents at.moment)
call-claims name at (BadParameter parameter) judgement own done_so = done-claims name at (case_of (form_of (BadParameter parameter)) at) judgement done_so (claims-none name at.state.contents at.moment)
call-claims name at (BadBody fault) judgement own done_so = done-claims name at (case_of (form_of (BadBody fault)) at) judgement done_so (claims-none name at.state.contents at.moment)
call-claims name at Ping judgement own done_so = done-claims name at (case_of (form_of Ping) at) judgement done_so (claims-none name at.state.contents at.moment)
call-claims name at (Task id) judgement own done_so =
    done-claims name at (case_of (form_of (Task id)) at) judgement done_so
    (
    let none = claims-none name at.state.contents at.moment in
    each-task (Claims name at.state.contents at.moment) id (row_with id at.state.contents.rows) _ none (λ row. none)
    )
call-claims name at (ListTaskGroup group page) judgement own done_so = done-claims name at (case_of (form_of (ListTaskGroup group page)) at) judgement done_so (claims-none name at.state.contents at.moment)
call-claims name at (ListDependentTasks id page) judgement own done_so = done-claims name at (case_of (form_of (ListDependentTasks id page)) at) judgement done_so (claims-none name at.state.contents at.moment)
call-claims name at (PendingTasks queue) judgement own done_so = done-claims name at (case_of (form_of (PendingTasks queue)) at) judgement done_so (claims-none name at.state.contents at.moment)
call-claims name at (Status id) judgement own done_so =
    done-claims name at (case_of (form_of (Status id)) at) judgement done_so
    (
    let none = claims-none name at.state.contents at.moment in
    each-task (Claims name at.state.contents at.moment) id (row_with id at.state.contents.rows) _ none (λ row. none)
    )
call-claims name at (CreateTask creation) judgement own done_so = done-claims name at (case_of (form_of (CreateTask creation)) at) judgement done_so (claims-some name at.state.contents at.moment (at_moment at.moment (Create creation)) refl)
call-claims name at (ClaimWork work) judgement own done_so = done-claims name at (case_of (form_of (ClaimWork work)) at) judgement done_so (claims-work name at.state.contents at.moment (at.moment + claim_millis at.state.config) work (picks (min work.tasks 32) work.queue at.state.contents.rows) own refl)
call-claims name at (ReclaimTask run) judgement own done_so =
    done-claims name at (case_of (form_of (ReclaimTask run)) at) judgement done_so
    (
    let none = claims-none name at.state.contents at.moment in
    each-task (Claims name at.state.contents at.moment) run.id (row_with run.id at.state.contents.rows) _ none
    (λ row. each-run (Claims name at.state.contents at.moment) run.id run.run _ (nat_lt run.run (length row.runs)) row none
    (claims-some name at.state.contents at.moment (at_moment at.moment (Reclaim (record { id = run.id; run = run.run; taken_until = at.moment + claim_millis at.state.config }))) refl))
    )
call-claims name at (ReportRun report) judgement own done_so =
    done-claims name at (case_of (form_of (ReportRun report)) at) judgement done_so
    (
    let none = claims-none name at.state.contents at.moment in
    each-task (Claims name at.state.contents at.moment) report.id (row_with report.id at.state.contents.rows) _ none
    (λ row. each-run (Claims name at.state.contents at.moment) report.id report.run _ (nat_lt report.run (length row.runs)) row none
    (claims-some name at.state.contents at.moment (at_moment at.moment (Resolve report)) refl))
    )
call-claims name at (ScheduleTask id) judgement own done_so =
    done-claims name at (case_of (form_of (ScheduleTask id)) at) judgement done_so
    (
    each-task (Claims name at.state.contents at.moment) id (row_with id at.state.contents.rows) _ (claims-none name at.state.contents at.moment)
    (λ row. claims-some name at.state.contents at.moment (at_moment at.moment (Schedule id)) refl)
    )
call-claims name at (RerunTask id) judgement own done_so =
    done-claims name at (case_of (form_of (RerunTask id)) at) judgement done_so
    (
    each-task (Claims name at.state.contents at.moment) id (row_with id at.state.contents.rows) _ (claims-none name at.state.contents at.moment)
    (λ row. claims-some name at.state.contents at.moment (at_moment at.moment (Rerun id)) refl)
    )
call-claims name at (CancelTask id) judgement own done_so =
    done-claims name at (case_of (form_of (CancelTask id)) at) judgement done_so
    (
    each-task (Claims name at.state.contents at.moment) id (row_with id at.state.contents.rows) _ (claims-none name at.state.contents at.moment)
    (λ row. claims-some name at.state.contents at.moment (at_moment at.moment (Cancel id)) refl)
    )
call-claims name at (TriggerHook trigger) judgement own (fired, comes, done_so) = done-claims name at (case_after fired at) judgement done_so (after-claims name at fired)

verdict-claims : (name : RunName) (state : State) (asking : Asking) (judgement : Judgement) → HaveOwnIds state.contents.rows → IsVerdict state asking judgement → Claims name state.contents (moment_of state.contents asking) judgement.change
unfolding IsVerdict
verdict-claims name state asking judgement own verdict = by judgement.change refl where
  at : Setting
  at = setting_of state asking

  by : (change : Option Change) → judgement.change ≡ change → Claims name state.contents (moment_of state.contents asking) judgement.change
  by None is = rw is (claims-none name state.contents (moment_of state.contents asking))
  by (Some change) is =
      let done_so = change-done at asking.caller (form_of asking.call) judgement change is verdict in
      call-claims name at asking.call judgement own done_so

-- ---- each task keeps an id of its own

kind-own : (contents : Contents) (at : ℕ) (kind : Kind) → HaveOwnIds contents.rows → ((creation : Creation) → creation_of_kind kind ≡ Some creation → row_with creation.id contents.rows ≡ None) → HaveOwnIds (after_kind contents at kind).rows
kind-own contents at Tick own unknown = advance-ids contents at own
kind-own contents at (Create creation) own unknown =
    created-ids contents.rows (new_row creation.id creation.definition) own (unknown creation refl)
kind-own contents at (Schedule id) own unknown = rw (change-ids (has_id id) (scheduled contents.next at) (scheduled-later contents.next at) contents.rows) own
kind-own contents at (Rerun id) own unknown = rw (change-ids (has_id id) (run_again contents.next at) (again-later contents.next at) contents.rows) own
kind-own contents at (Cancel id) own unknown = rw (change-ids (has_id id) (canceled at) (canceled-later at) contents.rows) own
kind-own contents at (TakesRuns claim) own unknown = rw (claimed-ids (claim_of at claim) claim.runs contents.rows) own
kind-own contents at (Reclaim r) own unknown = rw (change-ids (has_id r.id) (reclaimed r.run r.taken_until) (reclaimed-later r.run r.taken_until) contents.rows) own
kind-own contents at (Resolve r) own unknown =
    rw (change-ids (has_id r.id) (resolved r.run (reason_of r.reason) contents.next at) (resolved-later r.run (reason_of r.reason) contents.next at) contents.rows) own

applied-own : (contents : Contents) (change : Change) → HaveOwnIds contents.rows → ((creation : Creation) → creation_of_kind change.kind ≡ Some creation → row_with creation.id contents.rows ≡ None) → HaveOwnIds (applied contents change).rows
unfolding applied
applied-own contents change own unknown =
    after-holds (λ c. HaveOwnIds c.rows) contents change.at (λ c ids. rw (settled-ids c change.at) ids) change.kind
    (kind-own contents change.at change.kind own unknown)

changed-own : (state : State) (asking : Asking) (judgement : Judgement) → HaveOwnIds state.contents.rows → IsVerdict state asking judgement → HaveOwnIds (changed state.contents (moment_of state.contents asking) judgement.change).rows
changed-own state asking judgement own verdict = by judgement.change refl where
  by : (change : Option Change) → judgement.change ≡ change → HaveOwnIds (changed state.contents (moment_of state.contents asking) judgement.change).rows
  by None is = rw is own
  by (Some change) is =
      let unknown : (creation : Creation) → creation_of_kind change.kind ≡ Some creation → row_with creation.id state.contents.rows ≡ None =
      λ creation creates. (verdict-creates state asking judgement creation verdict (ap creation_of is ∙ creates)).unknown in
      rw is (applied-own state.contents change own unknown)

entry-own : (state : State) (entry : Entry) → HaveOwnIds state.contents.rows → lawful state entry → HaveOwnIds (after state entry).contents.rows
entry-own state (tick moment) own may = advance-ids state.contents moment own
entry-own state (call asking out_of_memory) own may = own
entry-own state (call asking disk_failed) own may = own
entry-own state (call asking was_halted) own may = own
entry-own state (call asking (finished judgement)) own may = changed-own state asking judgement own may.became.verdict

-- ---- histories

entry-claims : (name : RunName) (state : State) (entry : Entry) → HaveOwnIds state.contents.rows → lawful state entry → claims_in name entry + one_if (has_claim name state.contents.rows) ≤ one_if (has_claim name (after state entry).contents.rows)
entry-claims name state (tick moment) own may =
    let more : one_if (has_claim name state.contents.rows) ≤ one_if (has_claim name (after state (tick moment)).contents.rows) =
    claim-stays name state.contents.rows (after state (tick moment)).contents.rows (entry-stays state (tick moment)) in
    omega arith
entry-claims name state (call asking out_of_memory) own may = omega arith
entry-claims name state (call asking disk_failed) own may = omega arith
entry-claims name state (call asking was_halted) own may = omega arith
entry-claims name state (call asking (finished judgement)) own may = verdict-claims name state asking judgement own may.became.verdict

pub claimed-few : (name : RunName) (state : State) (history : List Entry) → HaveOwnIds state.contents.rows → IsLegal farm_rules state history → sum_by (claims_in name) history + one_if (has_claim name state.contents.rows) ≤ 1
unfolding farm_rules
claimed-few name state [] own legal = let few = one-few (has_claim name state.contents.rows) in omega arith
claimed-few name state (entry ∷ rest) own legal =
    let here : claims_in name entry + one_if (has_claim name state.contents.rows) ≤ one_if (has_claim name (after state entry).contents.rows) = entry-claims name state entry own legal.0 in
    let others : sum_by (claims_in name) rest + one_if (has_claim name (after state entry).contents.rows) ≤ 1 = claimed-few name (after state entry) rest (entry-own state entry own legal.0) legal.1 in
    let sum : sum_by (claims_in name) (entry ∷ rest) ≡ claims_in name entry + sum_by (claims_in name) rest = sum_by-cons (claims_in name) entry rest in
    omega arith

-- how many claims a run stands in
claims-are : (run : Option Run) → claims_of run ≡ one_if (claim_in run)
claims-are None = refl
claims-are (Some run) = refl

pub claimed-once : (opening : State) (history : List Entry) (name : RunName) → HaveOwnIds opening.contents.rows → IsLegal farm_rules opening history → claims_of (run_in name opening) + sum_by (claims_in name) history ≤ 1
claimed-once opening history name own legal =
    let few : sum_by (claims_in name) history + one_if (has_claim name opening.contents.rows) ≤ 1 = claimed-few name opening history own legal in
    let same : claims_of (run_in name opening) ≡ one_if (has_claim name opening.contents.rows) = claims-are (run_in name opening) in
    omega arith
