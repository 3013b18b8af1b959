-- Runs that are made as their tasks are scheduled: where a task is ready, or by the change that schedules it.
use Rattle.std.proofs.Common.{◌≡◌, ℕ, zero, suc, ◌+◌, ◌-◌, min, Bool, true, false, cond, List, [], ◌∷◌, ◌++◌, map, length, count_by, is_none, bytes_eq, Option, Some, None, refl, ap, sym, ◌∙◌, subst, arith, nat_le, nat_lt, ◌&&◌}
use Rattle.std.specs.List.{AllByRecursion, list_any, last_or}
use Rattle.std.proofs.lemmas.Bool.{and_parts, and_from}
use Rattle.std.proofs.lemmas.List.{map_push}
use Rattle.std.proofs.lemmas.List.Folds.{list_all-append}
use Rattle.std.proofs.lemmas.List.Sums.{sum_by-cons, sum_by_push}
use Rattle.std.proofs.lemmas.Map.Keys.{IsDistinct-head, IsDistinct-tail}
use Rattle.std.proofs.lemmas.Slice.Eq.{bytes_eq-Decides}
use Rattle.run_states.specs.declared.reasons.ReasonCreated.{ReasonCreated}
use Rattle.run_states.specs.declared.reasons.ReasonCreated.TheVariants.{Rerun as MadeByRerun, Retry, TaskRetry}
use Rattle.run_states.specs.declared.reasons.ReasonResolved.{ReasonResolved}
use Rattle.run_states.specs.declared.reasons.ReasonResolved.TheVariants as reasons
use Rattle.run_states.specs.declared.run.Claim.{Claim as RunClaim}
use Rattle.run_states.specs.declared.run.Run.{Run}
use Rattle.run_states.specs.Reasons.{retry_after}
use Rattle.run_states.specs.Runs.{taken, kept, ended, pending_run, change_last, change_at}
use Rattle.run_states.specs.Rows.{Row, is_unscheduled, is_resolved, is_pending, is_running_at, loses_claim, runs_finished, finished, exceeded, first_run, scheduled, new_row}
use Rattle.run_states.specs.Moves.{retried, followed, closed, claimed, reclaimed, resolved, expired, canceled, may_rerun, run_again}
use Rattle.task_types.specs.declared.change.Change.{Change}
use Rattle.task_types.specs.declared.change.Kind.{Kind}
use Rattle.task_types.specs.declared.change.Kind.TheVariants.{Tick, Create, Schedule, Rerun, Cancel, Claim as TakesRuns, Reclaim, Resolve}
use Rattle.task_types.specs.declared.change.RunName.{RunName}
use Rattle.task_index.specs.Contents.{Contents, HaveOwnIds}
use Rattle.task_index.specs.Ready.{is_ready, started, settled}
use Rattle.task_index.specs.Due.{all_due_moments, first_due, meets_deadline, change_first, resolved_at, after_first, turn, turns, advance}
use Rattle.task_index.specs.Changes.{has_id, reason_of, change_row, claim_of, all_claimed, after_kind, applied}
use Rattle.farm_rows.specs.Starts.{is_start, starts, more_starts, starts_once, may_start, schedules, starts_by}
use Rattle.task_index.proofs.ReadyLemmas.{some-last, ready-free}
use Rattle.task_index.proofs.IdLemmas.{bytes_eq-other, after-holds}
use Rattle.task_index.proofs.TurnLemmas.{deadline-resolved, claim-resolved}

-- ---- runs of which one is changed

abbrev one_if : Bool → ℕ
one_if b = cond b 1 0

abbrev starts_in : List Run → ℕ
starts_in runs = count_by (λ (run : Run). is_start run.created) runs

starts-cons : (run : Run) (runs : List Run) → starts_in (run ∷ runs) ≡ one_if (is_start run.created) + starts_in runs
starts-cons run runs = sum_by-cons (λ (r : Run). cond (is_start r.created) 1 0) run runs

starts-push : (run : Run) (runs : List Run) → is_start run.created ≡ false → starts_in (runs ++ run ∷ []) ≡ starts_in runs
starts-push run runs not_ =
    let more : starts_in (runs ++ run ∷ []) ≡ starts_in runs + one_if (is_start run.created) = sum_by_push (λ (r : Run). cond (is_start r.created) 1 0) runs run in
    let none : one_if (is_start run.created) ≡ 0 = ap one_if not_ in
    omega arith

starts-first : (f : Run → Run) → ((run : Run) → (f run).created ≡ run.created) → (run : Run) (runs : List Run) → starts_in (f run ∷ runs) ≡ starts_in (run ∷ runs)
starts-first f same run runs =
    let before = starts-cons run runs in
    let after = starts-cons (f run) runs in
    let here : one_if (is_start (f run).created) ≡ one_if (is_start run.created) = ap (λ (c : ReasonCreated). one_if (is_start c)) (same run) in
    omega arith

starts-rest : (run : Run) (runs after : List Run) → starts_in after ≡ starts_in runs → starts_in (run ∷ after) ≡ starts_in (run ∷ runs)
starts-rest run runs after same =
    let left = starts-cons run runs in
    let right = starts-cons run after in
    omega arith

starts-last : (f : Run → Run) → ((run : Run) → (f run).created ≡ run.created) → (runs : List Run) → starts_in (change_last f runs) ≡ starts_in runs
starts-last f same [] = refl
starts-last f same (run ∷ []) = starts-first f same run []
starts-last f same (run ∷ next ∷ runs) = starts-rest run (next ∷ runs) (change_last f (next ∷ runs)) (starts-last f same (next ∷ runs))

starts-at : (f : Run → Run) → ((run : Run) → (f run).created ≡ run.created) → (place : ℕ) (runs : List Run) → starts_in (change_at place f runs) ≡ starts_in runs
starts-at f same place [] = refl
starts-at f same zero (run ∷ runs) = starts-first f same run runs
starts-at f same (suc place) (run ∷ runs) = starts-rest run runs (change_at place f runs) (starts-at f same place runs)

-- ---- each move makes no start

finished-starts : (reason : ReasonResolved) (at : ℕ) (row : Row) → starts (finished reason at row) ≡ starts row
finished-starts reason at row = by (is_resolved row) refl where
  of_runs : (runs : List Run) → starts_in (runs_finished reason at runs) ≡ starts_in runs
  of_runs [] = refl
  of_runs (run ∷ runs) = starts-last (ended reason at) (λ r. refl) (run ∷ runs)

  by : (b : Bool) → is_resolved row ≡ b → starts (finished reason at row) ≡ starts row
  by true is = ap (λ b. starts (cond b row (record row { runs = runs_finished reason at row.runs }))) is
  by false is = ap (λ b. starts (cond b row (record row { runs = runs_finished reason at row.runs }))) is ∙ of_runs row.runs

retried-starts : (created : ReasonCreated) (number at : ℕ) (row : Row) → is_start created ≡ false → starts (retried created number at row) ≡ starts row
retried-starts created number at row not_ = by (nat_lt 0 row.retries_left) refl where
  more : Row
  more = record row { retries_left = row.retries_left - 1; runs = row.runs ++ pending_run created number at ∷ [] }

  by : (b : Bool) → nat_lt 0 row.retries_left ≡ b → starts (retried created number at row) ≡ starts row
  by true is = ap (λ b. starts (cond b more row)) is ∙ starts-push (pending_run created number at) row.runs not_
  by false is = ap (λ b. starts (cond b more row)) is

followed-starts : (reason : ReasonResolved) (number at : ℕ) (row : Row) → starts (followed (retry_after reason) number at row) ≡ starts row
followed-starts reasons.ClaimExpired number at row = retried-starts Retry number at row refl
followed-starts reasons.WorkerShutdown number at row = retried-starts Retry number at row refl
followed-starts reasons.IntermittentTask number at row = retried-starts TaskRetry number at row refl
followed-starts reasons.Completed number at row = refl
followed-starts reasons.Failed number at row = refl
followed-starts reasons.DeadlineExceeded number at row = refl
followed-starts reasons.Canceled number at row = refl
followed-starts reasons.Superseded number at row = refl
followed-starts reasons.MalformedPayload number at row = refl
followed-starts reasons.ResourceUnavailable number at row = refl
followed-starts reasons.InternalError number at row = refl

closed-starts : (place : ℕ) (reason : ReasonResolved) (number at : ℕ) (row : Row) → starts (closed place reason number at row) ≡ starts row
closed-starts place reason number at row =
    followed-starts reason number at (record row { runs = change_at place (ended reason at) row.runs }) ∙ starts-at (ended reason at) (λ r. refl) place row.runs

expired-starts : (number at : ℕ) (row : Row) → starts (expired number at row) ≡ starts row
expired-starts number at row = by (loses_claim at row) refl where
  by : (b : Bool) → loses_claim at row ≡ b → starts (expired number at row) ≡ starts row
  by true is = ap (λ b. starts (cond b (closed (length row.runs - 1) reasons.ClaimExpired number at row) row)) is ∙ closed-starts (length row.runs - 1) reasons.ClaimExpired number at row
  by false is = ap (λ b. starts (cond b (closed (length row.runs - 1) reasons.ClaimExpired number at row) row)) is

resolved-starts : (run : ℕ) (reason : ReasonResolved) (number at : ℕ) (row : Row) → starts (resolved run reason number at row) ≡ starts row
resolved-starts run reason number at row = by (is_running_at run row) refl where
  by : (b : Bool) → is_running_at run row ≡ b → starts (resolved run reason number at row) ≡ starts row
  by true is = ap (λ b. starts (cond b (closed run reason number at row) row)) is ∙ closed-starts run reason number at row
  by false is = ap (λ b. starts (cond b (closed run reason number at row) row)) is

claimed-starts : (claim : RunClaim) (row : Row) → starts (claimed claim row) ≡ starts row
claimed-starts claim row = by (is_pending row) refl where
  by : (b : Bool) → is_pending row ≡ b → starts (claimed claim row) ≡ starts row
  by true is = ap (λ b. starts (cond b (record row { runs = change_last (taken claim) row.runs }) row)) is ∙ starts-last (taken claim) (λ r. refl) row.runs
  by false is = ap (λ b. starts (cond b (record row { runs = change_last (taken claim) row.runs }) row)) is

reclaimed-starts : (run moment : ℕ) (row : Row) → starts (reclaimed run moment row) ≡ starts row
reclaimed-starts run moment row = by (is_running_at run row) refl where
  by : (b : Bool) → is_running_at run row ≡ b → starts (reclaimed run moment row) ≡ starts row
  by true is = ap (λ b. starts (cond b (record row { runs = change_at run (kept moment) row.runs }) row)) is ∙ starts-at (kept moment) (λ r. refl) run row.runs
  by false is = ap (λ b. starts (cond b (record row { runs = change_at run (kept moment) row.runs }) row)) is

again-starts : (number at : ℕ) (row : Row) → starts (run_again number at row) ≡ starts row
again-starts number at row = by (may_rerun at row) refl where
  more : Row
  more = record row { retries_left = min row.definition.retries (50 - (length row.runs + 1)); runs = row.runs ++ pending_run MadeByRerun number at ∷ [] }

  by : (b : Bool) → may_rerun at row ≡ b → starts (run_again number at row) ≡ starts row
  by true is = ap (λ b. starts (cond b more row)) is ∙ starts-push (pending_run MadeByRerun number at) row.runs refl
  by false is = ap (λ b. starts (cond b more row)) is

-- ---- one of all tasks is changed

-- two lists are the same whose first numbers are, and the others
both : (n m : ℕ) (ns ms : List ℕ) → n ≡ m → ns ≡ ms → n ∷ ns ≡ m ∷ ms
both n m ns ms first rest = ap (λ (k : ℕ). k ∷ ns) first ∙ ap (λ (ks : List ℕ). m ∷ ks) rest

change-starts : (test : Row → Bool) (f : Row → Row) → ((row : Row) → starts (f row) ≡ starts row) → (rows : List Row) → map starts (change_first test f rows) ≡ map starts rows
change-starts test f keeps [] = refl
change-starts test f keeps (row ∷ rows) = by (change-starts test f keeps rows) (test row) refl where
  by : map starts (change_first test f rows) ≡ map starts rows → (b : Bool) → test row ≡ b → map starts (change_first test f (row ∷ rows)) ≡ map starts (row ∷ rows)
  by rest true is = ap (λ b. map starts (cond b (f row ∷ rows) (row ∷ change_first test f rows))) is ∙ ap (λ (n : ℕ). n ∷ map starts rows) (keeps row)
  by rest false is = ap (λ b. map starts (cond b (f row ∷ rows) (row ∷ change_first test f rows))) is ∙ ap (λ (ns : List ℕ). starts row ∷ ns) rest

pub starts-due : (contents : Contents) (at : ℕ) → map starts (resolved_at contents at).rows ≡ map starts contents.rows
starts-due contents at = by (list_any (meets_deadline at) contents.rows) refl where
  by : (b : Bool) → list_any (meets_deadline at) contents.rows ≡ b → map starts (resolved_at contents at).rows ≡ map starts contents.rows
  by true is = ap (λ (c : Contents). map starts c.rows) (deadline-resolved contents at is) ∙ change-starts (meets_deadline at) (exceeded at) (finished-starts reasons.DeadlineExceeded at) contents.rows
  by false is = ap (λ (c : Contents). map starts c.rows) (claim-resolved contents at is) ∙ change-starts (loses_claim at) (expired contents.next at) (expired-starts contents.next at) contents.rows

claimed-all : (claim : RunClaim) (names : List RunName) (rows : List Row) → map starts (all_claimed claim names rows) ≡ map starts rows
claimed-all claim [] rows = refl
claimed-all claim (name ∷ names) rows = claimed-all claim names (change_row name.id (claimed claim) rows) ∙ change-starts (has_id name.id) (claimed claim) (claimed-starts claim) rows

pub starts-kind : (contents : Contents) (at : ℕ) (kind : Kind) → may_start kind ≡ false → map starts (after_kind contents at kind).rows ≡ starts_by kind contents.rows
starts-kind contents at Tick not_ = cc
starts-kind contents at (Create creation) not_ = map_push starts contents.rows (new_row creation.id creation.definition)
starts-kind contents at (Schedule id) not_ = cc
starts-kind contents at (Rerun id) not_ = change-starts (has_id id) (run_again contents.next at) (again-starts contents.next at) contents.rows
starts-kind contents at (Cancel id) not_ = change-starts (has_id id) (canceled at) (finished-starts reasons.Canceled at) contents.rows
starts-kind contents at (TakesRuns claim) not_ = claimed-all (claim_of at claim) claim.runs contents.rows
starts-kind contents at (Reclaim r) not_ = change-starts (has_id r.id) (reclaimed r.run r.taken_until) (reclaimed-starts r.run r.taken_until) contents.rows
starts-kind contents at (Resolve r) not_ = change-starts (has_id r.id) (resolved r.run (reason_of r.reason) contents.next at) (resolved-starts r.run (reason_of r.reason) contents.next at) contents.rows

-- ---- a schedule starts its task, and settling each that is ready

-- a task with one more start, where it has that
abbrev more_if : Bool → Row → ℕ
more_if b row = cond b (starts row + 1) (starts row)

scheduled-starts : (number at : ℕ) (row : Row) → starts (scheduled number at row) ≡ more_if (is_unscheduled row) row
scheduled-starts number at row = by row.runs refl where
  count : List Run → ℕ
  count runs = cond (is_none (last_or None runs)) (starts_in runs + 1) (starts_in runs)

  by : (runs : List Run) → row.runs ≡ runs → starts (scheduled number at row) ≡ more_if (is_unscheduled row) row
  by [] is = ap (λ (rs : List Run). starts_in (first_run number at rs)) is ∙ sym (ap count is)
  by (run ∷ runs) is =
      let all : List Run = run ∷ runs in
      ap (λ (rs : List Run). starts_in (first_run number at rs)) is ∙ sym (ap count is ∙ ap (λ b. cond b (starts_in all + 1) (starts_in all)) (some-last run runs))

-- where no task of these has the id, none is scheduled
others-keep : (id : List ℕ) (rows : List Row) → AllByRecursion (λ (other : List ℕ). bytes_eq id other ≡ false) (map (λ row. row.id) rows) → more_starts (schedules id) rows ≡ map starts rows
others-keep id [] all = refl
others-keep id (row ∷ rows) all =
    let other : schedules id row ≡ false = ap (λ b. b && is_unscheduled row) (bytes_eq-other id row.id all.0) in
    both (more_if (schedules id row) row) (starts row) (more_starts (schedules id) rows) (map starts rows) (ap (λ b. more_if b row) other) (others-keep id rows all.1)

schedule-first : (id : List ℕ) (number at : ℕ) (rows : List Row) → HaveOwnIds rows → map starts (change_row id (scheduled number at) rows) ≡ more_starts (schedules id) rows
schedule-first id number at [] own = refl
schedule-first id number at (row ∷ rows) own = by (schedule-first id number at rows (IsDistinct-tail bytes_eq row.id ids own)) (has_id id row) refl where
  ids : List (List ℕ)
  ids = map (λ (r : Row). r.id) rows

  next : List Row
  next = change_row id (scheduled number at) rows

  count : Bool → ℕ
  count b = more_if (b && is_unscheduled row) row

  by : map starts next ≡ more_starts (schedules id) rows → (b : Bool) → has_id id row ≡ b → map starts (change_row id (scheduled number at) (row ∷ rows)) ≡ more_starts (schedules id) (row ∷ rows)
  by rest true is =
      let same : row.id ≡ id = (bytes_eq-Decides row.id id).0 is in
      let apart : AllByRecursion (λ (other : List ℕ). bytes_eq id other ≡ false) ids =
      subst (λ (i : List ℕ). AllByRecursion (λ (other : List ℕ). bytes_eq i other ≡ false) ids) same (IsDistinct-head bytes_eq row.id ids own) in
      ap (λ b. map starts (cond b (scheduled number at row ∷ rows) (row ∷ next))) is
      ∙ both (starts (scheduled number at row)) (count (has_id id row)) (map starts rows) (more_starts (schedules id) rows) (scheduled-starts number at row ∙ sym (ap count is)) (sym (others-keep id rows apart))
  by rest false is =
      ap (λ b. map starts (cond b (scheduled number at row ∷ rows) (row ∷ next))) is
      ∙ both (starts row) (count (has_id id row)) (map starts next) (more_starts (schedules id) rows) (sym (ap count is)) rest

pub starts-schedule : (contents : Contents) (at : ℕ) (id : List ℕ) → HaveOwnIds contents.rows → map starts (after_kind contents at (Schedule id)).rows ≡ starts_by (Schedule id) contents.rows
starts-schedule contents at id own = schedule-first id contents.next at contents.rows own

started-starts : (test : Row → Bool) → ((row : Row) → test row ≡ true → is_unscheduled row ≡ true) → (number at : ℕ) (rows : List Row) → map starts (started test number at rows) ≡ more_starts test rows
started-starts test free number at [] = refl
started-starts test free number at (row ∷ rows) = by (started-starts test free number at rows) (started-starts test free (number + 1) at rows) (test row) refl where
  here : List Row
  here = started test number at rows

  more : List Row
  more = started test (number + 1) at rows

  by : map starts here ≡ more_starts test rows → map starts more ≡ more_starts test rows → (b : Bool) → test row ≡ b → map starts (started test number at (row ∷ rows)) ≡ more_starts test (row ∷ rows)
  by others later true is =
      let counted : starts (scheduled number at row) ≡ more_if (test row) row = scheduled-starts number at row ∙ ap (λ b. more_if b row) (free row is ∙ sym is) in
      ap (λ b. map starts (cond b (scheduled number at row ∷ more) (row ∷ here))) is
      ∙ both (starts (scheduled number at row)) (more_if (test row) row) (map starts more) (more_starts test rows) counted later
  by others later false is =
      ap (λ b. map starts (cond b (scheduled number at row ∷ more) (row ∷ here))) is
      ∙ both (starts row) (more_if (test row) row) (map starts here) (more_starts test rows) (sym (ap (λ b. more_if b row) is)) others

pub starts-settled : (contents : Contents) (at : ℕ) → map starts (settled contents at).rows ≡ more_starts (is_ready contents.rows) contents.rows
unfolding settled
starts-settled contents at = started-starts (is_ready contents.rows) (ready-free contents.rows) contents.next at contents.rows

-- ---- no task is scheduled twice

abbrev once : Row → Bool
once row = nat_le (starts row) 1

once-same : (row after : Row) → starts after ≡ starts row → once row ≡ true → once after ≡ true
once-same row after same is = ap (λ n. nat_le n 1) same ∙ is

once-scheduled : (number at : ℕ) (row : Row) → once row ≡ true → once (scheduled number at row) ≡ true
once-scheduled number at row is = by row.runs refl where
  by : (runs : List Run) → row.runs ≡ runs → once (scheduled number at row) ≡ true
  by [] runs = ap (λ (rs : List Run). nat_le (starts_in (first_run number at rs)) 1) runs
  by (run ∷ rest) runs = ap (λ (rs : List Run). nat_le (starts_in (first_run number at rs)) 1) runs ∙ (sym (ap (λ (rs : List Run). nat_le (starts_in rs) 1) runs) ∙ is)

once-change : (test : Row → Bool) (f : Row → Row) → ((row : Row) → once row ≡ true → once (f row) ≡ true) → (rows : List Row) → starts_once rows ≡ true → starts_once (change_first test f rows) ≡ true
once-change test f keeps [] all = refl
once-change test f keeps (row ∷ rows) all = by (once-change test f keeps rows) (test row) refl where
  parts : (once row ≡ true) × (starts_once rows ≡ true)
  parts = and_parts (once row) (starts_once rows) all

  by : (starts_once rows ≡ true → starts_once (change_first test f rows) ≡ true) → (b : Bool) → test row ≡ b → starts_once (change_first test f (row ∷ rows)) ≡ true
  by rest true is = ap (λ b. starts_once (cond b (f row ∷ rows) (row ∷ change_first test f rows))) is ∙ and_from (once (f row)) (starts_once rows) (keeps row parts.0) parts.1
  by rest false is = ap (λ b. starts_once (cond b (f row ∷ rows) (row ∷ change_first test f rows))) is ∙ and_from (once row) (starts_once (change_first test f rows)) parts.0 (rest parts.1)

once-started : (test : Row → Bool) (number at : ℕ) (rows : List Row) → starts_once rows ≡ true → starts_once (started test number at rows) ≡ true
once-started test number at [] all = refl
once-started test number at (row ∷ rows) all = by (once-started test number at rows) (once-started test (number + 1) at rows) (test row) refl where
  parts : (once row ≡ true) × (starts_once rows ≡ true)
  parts = and_parts (once row) (starts_once rows) all

  by : (starts_once rows ≡ true → starts_once (started test number at rows) ≡ true) → (starts_once rows ≡ true → starts_once (started test (number + 1) at rows) ≡ true) → (b : Bool) → test row ≡ b
      → starts_once (started test number at (row ∷ rows)) ≡ true
  by here more true is =
      ap (λ b. starts_once (cond b (scheduled number at row ∷ started test (number + 1) at rows) (row ∷ started test number at rows))) is
      ∙ and_from (once (scheduled number at row)) (starts_once (started test (number + 1) at rows)) (once-scheduled number at row parts.0) (more parts.1)
  by here more false is =
      ap (λ b. starts_once (cond b (scheduled number at row ∷ started test (number + 1) at rows) (row ∷ started test number at rows))) is
      ∙ and_from (once row) (starts_once (started test number at rows)) parts.0 (here parts.1)

once-settled : (at : ℕ) (contents : Contents) → starts_once contents.rows ≡ true → starts_once (settled contents at).rows ≡ true
unfolding settled
once-settled at contents all = once-started (is_ready contents.rows) contents.next at contents.rows all

once-due : (contents : Contents) (at : ℕ) → starts_once contents.rows ≡ true → starts_once (resolved_at contents at).rows ≡ true
once-due contents at all = by (list_any (meets_deadline at) contents.rows) refl where
  by : (b : Bool) → list_any (meets_deadline at) contents.rows ≡ b → starts_once (resolved_at contents at).rows ≡ true
  by true is =
      ap (λ (c : Contents). starts_once c.rows) (deadline-resolved contents at is)
      ∙ once-change (meets_deadline at) (exceeded at) (λ row here. once-same row (exceeded at row) (finished-starts reasons.DeadlineExceeded at row) here) contents.rows all
  by false is =
      ap (λ (c : Contents). starts_once c.rows) (claim-resolved contents at is)
      ∙ once-change (loses_claim at) (expired contents.next at) (λ row here. once-same row (expired contents.next at row) (expired-starts contents.next at row) here) contents.rows all

once-turn : (contents : Contents) (first : Option ℕ) → starts_once contents.rows ≡ true → starts_once (after_first contents first).rows ≡ true
once-turn contents None all = all
once-turn contents (Some at) all = once-settled at (resolved_at contents at) (once-due contents at all)

once-turns : (count moment : ℕ) (contents : Contents) → starts_once contents.rows ≡ true → starts_once (turns count moment contents).rows ≡ true
once-turns zero moment contents all = all
once-turns (suc count) moment contents all = once-turns count moment (turn moment contents) (once-turn contents (first_due contents moment) all)

pub once-advance : (contents : Contents) (moment : ℕ) → starts_once contents.rows ≡ true → starts_once (advance contents moment).rows ≡ true
unfolding advance
once-advance contents moment all = once-turns (length (all_due_moments contents.rows)) moment contents all

once-claimed : (claim : RunClaim) (names : List RunName) (rows : List Row) → starts_once rows ≡ true → starts_once (all_claimed claim names rows) ≡ true
once-claimed claim [] rows all = all
once-claimed claim (name ∷ names) rows all =
    once-claimed claim names (change_row name.id (claimed claim) rows) (once-change (has_id name.id) (claimed claim) (λ row here. once-same row (claimed claim row) (claimed-starts claim row) here) rows all)

once-kind : (contents : Contents) (at : ℕ) (kind : Kind) → starts_once contents.rows ≡ true → starts_once (after_kind contents at kind).rows ≡ true
once-kind contents at Tick all = once-advance contents at all
once-kind contents at (Create creation) all =
    list_all-append once contents.rows (new_row creation.id creation.definition ∷ []) ∙ ap (λ b. b && true) all
once-kind contents at (Schedule id) all = once-change (has_id id) (scheduled contents.next at) (once-scheduled contents.next at) contents.rows all
once-kind contents at (Rerun id) all =
    once-change (has_id id) (run_again contents.next at) (λ row here. once-same row (run_again contents.next at row) (again-starts contents.next at row) here) contents.rows all
once-kind contents at (Cancel id) all = once-change (has_id id) (canceled at) (λ row here. once-same row (canceled at row) (finished-starts reasons.Canceled at row) here) contents.rows all
once-kind contents at (TakesRuns claim) all = once-claimed (claim_of at claim) claim.runs contents.rows all
once-kind contents at (Reclaim r) all =
    once-change (has_id r.id) (reclaimed r.run r.taken_until) (λ row here. once-same row (reclaimed r.run r.taken_until row) (reclaimed-starts r.run r.taken_until row) here) contents.rows all
once-kind contents at (Resolve r) all =
    let reason : ReasonResolved = reason_of r.reason in
    once-change (has_id r.id) (resolved r.run reason contents.next at) (λ row here. once-same row (resolved r.run reason contents.next at row) (resolved-starts r.run reason contents.next at row) here) contents.rows all

pub once-applied : (contents : Contents) (change : Change) → starts_once contents.rows ≡ true → starts_once (applied contents change).rows ≡ true
unfolding applied
once-applied contents change all =
    let P : Contents → Type 0 = λ c. starts_once c.rows ≡ true in
    after-holds P contents change.at (once-settled change.at) change.kind (once-kind contents change.at change.kind all)
