-- Of each task that a farm made, every run but the last has ended, whatever comes.
use Rattle.std.proofs.Common.{◌≡◌, ℕ, zero, suc, ◌+◌, ◌-◌, Bool, true, false, ◌&&◌, cond, List, [], ◌∷◌, ◌++◌, length, Option, Some, None, is_some, is_none, option_and_then, slice_get, nat_lt, refl, ap, sym, ◌∙◌}
use Rattle.std.specs.List.{last_or, list_all, list_any}
use Rattle.std.specs.Option.{option_map_or}
use Rattle.std.proofs.lemmas.Bool.{and_parts, and_from}
use Rattle.std.proofs.lemmas.List.Folds.{list_all-append}
use Rattle.history.specs.Histories.{end_state}
use Rattle.task_types.specs.declared.change.Change.{Change}
use Rattle.task_types.specs.declared.change.Kind.{Kind}
use Rattle.task_types.specs.declared.change.Kind.TheVariants.{Tick, Create, Schedule, Rerun, Cancel, Claim as TakesRuns, Reclaim, Resolve}
use Rattle.task_types.specs.declared.change.RunName.{RunName}
use Rattle.run_states.specs.declared.reasons.ReasonCreated.{ReasonCreated}
use Rattle.run_states.specs.declared.reasons.ReasonCreated.TheVariants.{Rerun as MadeByRerun}
use Rattle.run_states.specs.declared.reasons.ReasonResolved.{ReasonResolved}
use Rattle.run_states.specs.declared.reasons.ReasonResolved.TheVariants.{DeadlineExceeded, Canceled, ClaimExpired}
use Rattle.run_states.specs.declared.run.Claim.{Claim}
use Rattle.run_states.specs.declared.run.Outcome.{Outcome}
use Rattle.run_states.specs.declared.run.Run.{Run}
use Rattle.run_states.specs.Reasons.{retry_after}
use Rattle.run_states.specs.Runs.{is_running_run, run_due, taken, kept, ended, change_last, change_at, pending_run}
use Rattle.run_states.specs.Rows.{Row, has_ended, is_resolved, is_pending, is_running_at, loses_claim, first_run, runs_finished, finished, exceeded, new_row, scheduled}
use Rattle.run_states.specs.Moves.{claimed, reclaimed, retried, followed, closed, resolved, expired, canceled, may_rerun, run_again}
use Rattle.run_states.proofs.ClaimLemmas.{claim-open}
use Rattle.run_states.proofs.RunLemmas.{get-last}
use Rattle.task_index.specs.Contents.{Contents}
use Rattle.task_index.specs.Due.{meets_deadline, change_first, resolved_at, after_first, turn, turns, first_due, all_due_moments, advance}
use Rattle.task_index.specs.Changes.{has_id, reason_of, change_row, claim_of, all_claimed, after_kind, applied}
use Rattle.task_index.specs.Ready.{is_ready, started, settled}
use Rattle.task_index.proofs.DueLemmas.{loses}
use Rattle.task_index.proofs.IdLemmas.{after-holds}
use Rattle.farm_machine.specs.Changes.{changed, moment_of}
use Rattle.farm_machine.specs.Entry.{Entry, tick, call, finished as Finished, out_of_memory, disk_failed, was_halted}
use Rattle.farm_machine.specs.State.{State}
use Rattle.farm_machine.specs.Step.{after, farm_rules}

-- ---- the runs of one task

-- a run has ended
abbrev pub has_end : Run → Bool
has_end run = is_some run.outcome

-- every run but the last has
abbrev pub are_past : List Run → Bool
are_past [] = true
are_past (run ∷ []) = true
are_past (run ∷ next ∷ runs) = has_end run && are_past (next ∷ runs)

past-cons : (run : Run) (runs : List Run) → has_end run ≡ true → are_past runs ≡ true → are_past (run ∷ runs) ≡ true
past-cons run [] ends past = refl
past-cons run (next ∷ runs) ends past = and_from (has_end run) (are_past (next ∷ runs)) ends past

past-parts : (run next : Run) (runs : List Run) → are_past (run ∷ next ∷ runs) ≡ true → (has_end run ≡ true) × (are_past (next ∷ runs) ≡ true)
past-parts run next runs past = and_parts (has_end run) (are_past (next ∷ runs)) past

last-past : (f : Run → Run) (runs : List Run) → are_past runs ≡ true → are_past (change_last f runs) ≡ true
last-past f [] past = refl
last-past f (run ∷ []) past = refl
last-past f (run ∷ next ∷ runs) past =
    let parts = past-parts run next runs past in
    past-cons run (change_last f (next ∷ runs)) parts.0 (last-past f (next ∷ runs) parts.1)

at-past : (f : Run → Run) → ((run : Run) → has_end run ≡ true → has_end (f run) ≡ true) → (place : ℕ) (runs : List Run) → are_past runs ≡ true → are_past (change_at place f runs) ≡ true
at-past f keeps place [] past = refl
at-past f keeps zero (run ∷ []) past = refl
at-past f keeps zero (run ∷ next ∷ runs) past =
    let parts = past-parts run next runs past in
    past-cons (f run) (next ∷ runs) (keeps run parts.0) parts.1
at-past f keeps (suc place) (run ∷ []) past = refl
at-past f keeps (suc place) (run ∷ next ∷ runs) past =
    let parts = past-parts run next runs past in
    past-cons run (change_at place f (next ∷ runs)) parts.0 (at-past f keeps place (next ∷ runs) parts.1)

more-past : (runs : List Run) (run : Run) → has_ended (last_or None runs) ≡ true → are_past runs ≡ true → are_past (runs ++ run ∷ []) ≡ true
more-past [] run ends past = refl
more-past (first ∷ []) run ends past = past-cons first (run ∷ []) ends refl
more-past (first ∷ next ∷ runs) run ends past =
    let parts = past-parts first next runs past in
    past-cons first ((next ∷ runs) ++ run ∷ []) parts.0 (more-past (next ∷ runs) run ends parts.1)

-- a run that has not ended is the last one
place-last : (before : Option Run) (first : Run) (runs : List Run) (place : ℕ) (run : Run) → are_past (first ∷ runs) ≡ true → slice_get (first ∷ runs) place ≡ Some run → has_end run ≡ false → last_or before (first ∷ runs) ≡ Some run
place-last before first [] zero run past is unended = is
place-last before first [] (suc place) run past is unended = cc
place-last before first (next ∷ runs) zero run past is unended =
    let same : first ≡ run = cc in
    let ends : has_end run ≡ true = sym (ap has_end same) ∙ (past-parts first next runs past).0 in
    cc
place-last before first (next ∷ runs) (suc place) run past is unended =
    place-last (Some first) next runs place run (past-parts first next runs past).1 is unended

pub open-last : (runs : List Run) (place : ℕ) (run : Run) → are_past runs ≡ true → slice_get runs place ≡ Some run → has_end run ≡ false → last_or None runs ≡ Some run
open-last [] place run past is unended = cc
open-last (first ∷ runs) place run past is unended = place-last None first runs place run past is unended

-- where it ends, every run has ended
place-ends : (reason : ReasonResolved) (at : ℕ) (before : Option Run) (first : Run) (runs : List Run) (place : ℕ) (run : Run) → are_past (first ∷ runs) ≡ true → slice_get (first ∷ runs) place ≡ Some run → has_end run ≡ false
    → has_ended (last_or before (change_at place (ended reason at) (first ∷ runs))) ≡ true
place-ends reason at before first [] zero run past is unended = refl
place-ends reason at before first [] (suc place) run past is unended = cc
place-ends reason at before first (next ∷ runs) zero run past is unended =
    let same : first ≡ run = cc in
    let ends : has_end run ≡ true = sym (ap has_end same) ∙ (past-parts first next runs past).0 in
    cc
place-ends reason at before first (next ∷ runs) (suc place) run past is unended =
    place-ends reason at (Some first) next runs place run (past-parts first next runs past).1 is unended

all-end : (reason : ReasonResolved) (at : ℕ) (runs : List Run) (place : ℕ) (run : Run) → are_past runs ≡ true → slice_get runs place ≡ Some run → has_end run ≡ false → has_ended (last_or None (change_at place (ended reason at) runs)) ≡ true
all-end reason at [] place run past is unended = cc
all-end reason at (first ∷ runs) place run past is unended = place-ends reason at None first runs place run past is unended

-- ---- one task

-- every run of a task but the last has ended
abbrev pub is_sound : Row → Bool
is_sound row = are_past row.runs

-- one of two tasks
either : (b : Bool) (one other : Row) → (b ≡ true → is_sound one ≡ true) → (b ≡ false → is_sound other ≡ true) → is_sound (cond b one other) ≡ true
either true one other holds fails = holds refl
either false one other holds fails = fails refl

finished-sound : (reason : ReasonResolved) (at : ℕ) (row : Row) → is_sound row ≡ true → is_sound (finished reason at row) ≡ true
finished-sound reason at row sound = either (is_resolved row) row (record row { runs = runs_finished reason at row.runs }) (λ is. sound) (λ is. of_runs row.runs sound) where
  of_runs : (runs : List Run) → are_past runs ≡ true → are_past (runs_finished reason at runs) ≡ true
  of_runs [] past = refl
  of_runs (run ∷ runs) past = last-past (ended reason at) (run ∷ runs) past

scheduled-sound : (number at : ℕ) (row : Row) → is_sound row ≡ true → is_sound (scheduled number at row) ≡ true
scheduled-sound number at row sound = of_runs row.runs sound where
  of_runs : (runs : List Run) → are_past runs ≡ true → are_past (first_run number at runs) ≡ true
  of_runs [] past = refl
  of_runs (run ∷ runs) past = past

pub claimed-sound : (claim : Claim) (row : Row) → is_sound row ≡ true → is_sound (claimed claim row) ≡ true
claimed-sound claim row sound = either (is_pending row) (record row { runs = change_last (taken claim) row.runs }) row (λ is. last-past (taken claim) row.runs sound) (λ is. sound)

reclaimed-sound : (number moment : ℕ) (row : Row) → is_sound row ≡ true → is_sound (reclaimed number moment row) ≡ true
reclaimed-sound number moment row sound =
    either (is_running_at number row) (record row { runs = change_at number (kept moment) row.runs }) row (λ is. at-past (kept moment) (λ run ends. ends) number row.runs sound) (λ is. sound)

retried-sound : (created : ReasonCreated) (number at : ℕ) (row : Row) → is_resolved row ≡ true → is_sound row ≡ true → is_sound (retried created number at row) ≡ true
retried-sound created number at row ends sound =
    either (nat_lt 0 row.retries_left) (record row { retries_left = row.retries_left - 1; runs = row.runs ++ pending_run created number at ∷ [] }) row
    (λ is. more-past row.runs (pending_run created number at) ends sound) (λ is. sound)

followed-sound : (created : Option ReasonCreated) (number at : ℕ) (row : Row) → is_resolved row ≡ true → is_sound row ≡ true → is_sound (followed created number at row) ≡ true
followed-sound None number at row ends sound = sound
followed-sound (Some created) number at row ends sound = retried-sound created number at row ends sound

closed-sound : (place : ℕ) (reason : ReasonResolved) (number at : ℕ) (row : Row) (run : Run) → slice_get row.runs place ≡ Some run → has_end run ≡ false → is_sound row ≡ true → is_sound (closed place reason number at row) ≡ true
closed-sound place reason number at row run there unended sound =
    followed-sound (retry_after reason) number at (record row { runs = change_at place (ended reason at) row.runs })
    (all-end reason at row.runs place run sound there unended) (at-past (ended reason at) (λ r ends. refl) place row.runs sound)

-- a running run is there, and has not ended
pub record Runs (number : ℕ) (row : Row) : Type 0 where
  pub run : Run
  pub there : slice_get row.runs number ≡ Some run
  pub running : is_running_run run ≡ true
  pub unended : has_end run ≡ false

unended-of : (claim : Option Claim) (outcome : Option Outcome) → (is_some claim && is_none outcome) ≡ true → is_some outcome ≡ false
unended-of None outcome is = cc
unended-of (Some claim) None is = refl
unended-of (Some claim) (Some outcome) is = cc

pub runs-at : (number : ℕ) (row : Row) → is_running_at number row ≡ true → Runs number row
runs-at number row is = by (slice_get row.runs number) refl is where
  by : (o : Option Run) → slice_get row.runs number ≡ o → option_map_or is_running_run o false ≡ true → Runs number row
  by None there is = cc
  by (Some run) there is = record { run = run; there = there; running = is; unended = unended-of run.claim run.outcome is }

resolved-sound : (number : ℕ) (reason : ReasonResolved) (drawn at : ℕ) (row : Row) → is_sound row ≡ true → is_sound (resolved number reason drawn at row) ≡ true
resolved-sound number reason drawn at row sound =
    either (is_running_at number row) (closed number reason drawn at row) row
    (λ is. let one = runs-at number row is in closed-sound number reason drawn at row one.run one.there one.unended sound) (λ is. sound)

-- a claim that falls due is that of the last run, which has not ended
last-there : (last : Option Run) (due : ℕ) → option_and_then run_due last ≡ Some due → has_ended last ≡ false → (run : Run) × (last ≡ Some run) × (has_end run ≡ false)
last-there None due is unended = cc
last-there (Some run) due is unended = (run, refl, unended)

expired-sound : (number at : ℕ) (row : Row) → is_sound row ≡ true → is_sound (expired number at row) ≡ true
expired-sound number at row sound = either (loses_claim at row) (closed (length row.runs - 1) ClaimExpired number at row) row (λ is. lost is) (λ is. sound) where
  lost : loses_claim at row ≡ true → is_sound (closed (length row.runs - 1) ClaimExpired number at row) ≡ true
  lost is =
      let l = loses at row is in
      let one = last-there (last_or None row.runs) l.due l.claim (claim-open row l.due l.claim) in
      closed-sound (length row.runs - 1) ClaimExpired number at row one.0 (get-last row.runs ∙ one.1) one.2 sound

again-sound : (number at : ℕ) (row : Row) → is_sound row ≡ true → is_sound (run_again number at row) ≡ true
again-sound number at row sound = by (may_rerun at row) refl where
  by : (b : Bool) → may_rerun at row ≡ b → is_sound (run_again number at row) ≡ true
  by false is = rw is sound
  by true is =
      let ends = (and_parts (is_resolved row) (nat_lt at row.definition.deadline && nat_lt (length row.runs) 50) is).0 in
      rw is (more-past row.runs (pending_run MadeByRerun number at) ends sound)

-- ---- all tasks

abbrev pub are_sound : List Row → Bool
are_sound rows = list_all is_sound rows

either-rows : (b : Bool) (one other : List Row) → are_sound one ≡ true → are_sound other ≡ true → are_sound (cond b one other) ≡ true
either-rows true one other holds fails = holds
either-rows false one other holds fails = fails

pub change-sound : (test : Row → Bool) (f : Row → Row) → ((row : Row) → is_sound row ≡ true → is_sound (f row) ≡ true) → (rows : List Row) → are_sound rows ≡ true → are_sound (change_first test f rows) ≡ true
change-sound test f keeps [] all = refl
change-sound test f keeps (row ∷ rows) all =
    let parts = and_parts (is_sound row) (are_sound rows) all in
    either-rows (test row) (f row ∷ rows) (row ∷ change_first test f rows) (and_from (is_sound (f row)) (are_sound rows) (keeps row parts.0) parts.1)
    (and_from (is_sound row) (are_sound (change_first test f rows)) parts.0 (change-sound test f keeps rows parts.1))

taken-sound : (claim : Claim) (names : List RunName) (rows : List Row) → are_sound rows ≡ true → are_sound (all_claimed claim names rows) ≡ true
taken-sound claim [] rows all = all
taken-sound claim (name ∷ names) rows all =
    taken-sound claim names (change_row name.id (claimed claim) rows) (change-sound (has_id name.id) (claimed claim) (claimed-sound claim) rows all)

started-sound : (test : Row → Bool) (number at : ℕ) (rows : List Row) → are_sound rows ≡ true → are_sound (started test number at rows) ≡ true
started-sound test number at [] all = refl
started-sound test number at (row ∷ rows) all =
    let parts = and_parts (is_sound row) (are_sound rows) all in
    either-rows (test row) (scheduled number at row ∷ started test (number + 1) at rows) (row ∷ started test number at rows)
    (and_from (is_sound (scheduled number at row)) (are_sound (started test (number + 1) at rows)) (scheduled-sound number at row parts.0) (started-sound test (number + 1) at rows parts.1))
    (and_from (is_sound row) (are_sound (started test number at rows)) parts.0 (started-sound test number at rows parts.1))

settled-sound : (contents : Contents) (at : ℕ) → are_sound contents.rows ≡ true → are_sound (settled contents at).rows ≡ true
unfolding settled
settled-sound contents at all = started-sound (is_ready contents.rows) contents.next at contents.rows all

-- ---- what falls due

either-contents : (b : Bool) (one other : Contents) → are_sound one.rows ≡ true → are_sound other.rows ≡ true → (let now : Contents = cond b one other in are_sound now.rows) ≡ true
either-contents true one other holds fails = holds
either-contents false one other holds fails = fails

resolved-at-sound : (contents : Contents) (at : ℕ) → are_sound contents.rows ≡ true → are_sound (resolved_at contents at).rows ≡ true
resolved-at-sound contents at all =
    either-contents (list_any (meets_deadline at) contents.rows) _ _ (change-sound (meets_deadline at) (exceeded at) (finished-sound DeadlineExceeded at) contents.rows all)
    (change-sound (loses_claim at) (expired contents.next at) (expired-sound contents.next at) contents.rows all)

pub first-sound : (contents : Contents) (first : Option ℕ) → are_sound contents.rows ≡ true → are_sound (after_first contents first).rows ≡ true
first-sound contents None all = all
first-sound contents (Some at) all = settled-sound (resolved_at contents at) at (resolved-at-sound contents at all)

turns-sound : (count moment : ℕ) (contents : Contents) → are_sound contents.rows ≡ true → are_sound (turns count moment contents).rows ≡ true
turns-sound zero moment contents all = all
turns-sound (suc count) moment contents all = turns-sound count moment (turn moment contents) (first-sound contents (first_due contents moment) all)

pub advance-sound : (contents : Contents) (moment : ℕ) → are_sound contents.rows ≡ true → are_sound (advance contents moment).rows ≡ true
unfolding advance
advance-sound contents moment all = turns-sound (length (all_due_moments contents.rows)) moment contents all

-- ---- changes and entries

kind-sound : (contents : Contents) (at : ℕ) (kind : Kind) → are_sound contents.rows ≡ true → are_sound (after_kind contents at kind).rows ≡ true
kind-sound contents at Tick all = advance-sound contents at all
kind-sound contents at (Create creation) all =
    let new : Row = new_row creation.id creation.definition in
    list_all-append is_sound contents.rows (new ∷ []) ∙ and_from (are_sound contents.rows) (are_sound (new ∷ [])) all refl
kind-sound contents at (Schedule id) all =
    change-sound (has_id id) (scheduled contents.next at) (scheduled-sound contents.next at) contents.rows all
kind-sound contents at (Rerun id) all = change-sound (has_id id) (run_again contents.next at) (again-sound contents.next at) contents.rows all
kind-sound contents at (Cancel id) all = change-sound (has_id id) (canceled at) (finished-sound Canceled at) contents.rows all
kind-sound contents at (TakesRuns claim) all = taken-sound (claim_of at claim) claim.runs contents.rows all
kind-sound contents at (Reclaim r) all = change-sound (has_id r.id) (reclaimed r.run r.taken_until) (reclaimed-sound r.run r.taken_until) contents.rows all
kind-sound contents at (Resolve r) all =
    change-sound (has_id r.id) (resolved r.run (reason_of r.reason) contents.next at) (resolved-sound r.run (reason_of r.reason) contents.next at) contents.rows all

pub applied-sound : (contents : Contents) (change : Change) → are_sound contents.rows ≡ true → are_sound (applied contents change).rows ≡ true
unfolding applied
applied-sound contents change all =
    after-holds (λ c. are_sound c.rows ≡ true) contents change.at (λ c sound. settled-sound c change.at sound) change.kind
    (kind-sound contents change.at change.kind all)

changed-sound : (contents : Contents) (moment : ℕ) (change : Option Change) → are_sound contents.rows ≡ true → are_sound (changed contents moment change).rows ≡ true
changed-sound contents moment None all = all
changed-sound contents moment (Some change) all = applied-sound contents change all

pub entry-sound : (state : State) (entry : Entry) → are_sound state.contents.rows ≡ true → are_sound (after state entry).contents.rows ≡ true
entry-sound state (tick moment) all = advance-sound state.contents moment all
entry-sound state (call asking out_of_memory) all = all
entry-sound state (call asking disk_failed) all = all
entry-sound state (call asking was_halted) all = all
entry-sound state (call asking (Finished judgement)) all = changed-sound state.contents (moment_of state.contents asking) judgement.change all

pub entries-sound : (state : State) (entries : List Entry) → are_sound state.contents.rows ≡ true → are_sound (end_state farm_rules state entries).contents.rows ≡ true
unfolding farm_rules
entries-sound state [] all = all
entries-sound state (entry ∷ rest) all = entries-sound (after state entry) rest (entry-sound state entry all)
