-- What a task serves those that wait for it, it serves whatever comes.
use Rattle.std.proofs.Common.{◌≡◌, ℕ, zero, suc, ◌+◌, Bool, true, false, cond, List, [], ◌∷◌, ◌++◌, length, Option, Some, None, bytes_eq, refl, ap, ◌∙◌}
use Rattle.std.specs.List.{last_or, list_any}
use Rattle.std.proofs.lemmas.Bool.{and_parts}
use Rattle.history.specs.Histories.{end_state}
use Rattle.history.proofs.HistoriesLemmas.{end_state-append}
use Rattle.task_types.specs.declared.choices.Requires.{Requires}
use Rattle.task_types.specs.declared.change.Change.{Change}
use Rattle.task_types.specs.declared.change.Kind.{Kind}
use Rattle.task_types.specs.declared.change.Kind.TheVariants.{Tick, Create, Schedule, Rerun, Cancel, Claim as TakesRuns, Reclaim, Resolve}
use Rattle.task_types.specs.declared.change.RunName.{RunName}
use Rattle.run_states.specs.declared.reasons.ReasonResolved.{ReasonResolved}
use Rattle.run_states.specs.declared.run.Claim.{Claim}
use Rattle.run_states.specs.Rows.{Row, has_ended, is_resolved, is_running_at, loses_claim, exceeded, new_row, scheduled}
use Rattle.run_states.specs.Moves.{claimed, reclaimed, resolved, expired, canceled, run_again}
use Rattle.run_states.specs.Serving.{serves}
use Rattle.run_states.proofs.LaterLemmas.{exceeded-later, canceled-later, scheduled-later, claimed-later, reclaimed-later, resolved-later, expired-later, again-later}
use Rattle.run_states.proofs.ServeLemmas.{serves-claimed, serves-reclaimed, serves-resolved, serves-expired, serves-exceeded, serves-canceled, serves-again, serves-scheduled}
use Rattle.task_index.specs.Changes.{has_id, reason_of, change_row, claim_of, all_claimed, after_kind, after_change, applied}
use Rattle.task_index.specs.Contents.{Contents}
use Rattle.task_index.specs.Due.{meets_deadline, change_first, resolved_at, after_first, turn, turns, first_due, all_due_moments, advance}
use Rattle.task_index.specs.Ready.{id_serves, is_ready, started, settled}
use Rattle.task_index.proofs.IdLemmas.{after-holds}
use Rattle.farm_machine.specs.Changes.{changed, moment_of}
use Rattle.farm_machine.specs.Entry.{Entry, tick, call, finished, out_of_memory, disk_failed, was_halted}
use Rattle.farm_machine.specs.Replay.{Restores}
use Rattle.farm_machine.specs.State.{State}
use Rattle.farm_machine.specs.Step.{after, farm_rules}
use Rattle.farm_laws.proofs.LastRunLemmas.{is_sound, are_sound, runs-at, open-last, claimed-sound, change-sound, first-sound, entry-sound, entries-sound}
use Rattle.farm_laws.proofs.SoundLemmas.{restored-sound}

-- ---- one task

-- a task keeps its id, and what it serves
abbrev IsKept : Row → Row → Type 0
IsKept before later = (later.id ≡ before.id) × ((needs : Requires) → serves needs before ≡ true → serves needs later ≡ true)

kept-same : (row : Row) → IsKept row row
kept-same row = (refl, λ needs served. served)

scheduled-kept : (number at : ℕ) (row : Row) → IsKept row (scheduled number at row)
scheduled-kept number at row = ((scheduled-later number at row).id, λ needs served. serves-scheduled needs number at row ∙ served)

claimed-kept : (claim : Claim) (row : Row) → IsKept row (claimed claim row)
claimed-kept claim row = ((claimed-later claim row).id, λ needs served. serves-claimed needs claim row served)

reclaimed-kept : (number moment : ℕ) (row : Row) → IsKept row (reclaimed number moment row)
reclaimed-kept number moment row = ((reclaimed-later number moment row).id, λ needs served. serves-reclaimed needs number moment row served)

expired-kept : (number at : ℕ) (row : Row) → IsKept row (expired number at row)
expired-kept number at row = ((expired-later number at row).id, λ needs served. serves-expired needs number at row served)

exceeded-kept : (at : ℕ) (row : Row) → IsKept row (exceeded at row)
exceeded-kept at row = ((exceeded-later at row).id, λ needs served. serves-exceeded needs at row served)

canceled-kept : (at : ℕ) (row : Row) → IsKept row (canceled at row)
canceled-kept at row = ((canceled-later at row).id, λ needs served. serves-canceled needs at row served)

again-kept : (number at : ℕ) (row : Row) → IsKept row (run_again number at row)
again-kept number at row = ((again-later number at row).id, λ needs served. serves-again needs number at row served)

-- where the last run has ended, and so every run has, none is running
ended-idle : (run : ℕ) (row : Row) → is_sound row ≡ true → is_resolved row ≡ true → is_running_at run row ≡ false
ended-idle run row sound ends = by (is_running_at run row) refl where
  by : (b : Bool) → is_running_at run row ≡ b → is_running_at run row ≡ false
  by false is = is
  by true is =
      let one = runs-at run row is in
      let last : last_or None row.runs ≡ Some one.run = open-last row.runs run one.run sound one.there one.unended in
      let open_ : is_resolved row ≡ false = ap has_ended last ∙ one.unended in
      cc

resolved-kept : (run : ℕ) (reason : ReasonResolved) (number at : ℕ) (row : Row) → is_sound row ≡ true → IsKept row (resolved run reason number at row)
resolved-kept run reason number at row sound =
    ((resolved-later run reason number at row).id, λ needs served. serves-resolved needs run reason number at row (ended-idle run row sound) served)

-- ---- all tasks

-- each task is there later in its place, and keeps what it serves; more may follow
abbrev AreKept : List Row → List Row → Type 0
AreKept [] later = Unit {0}
AreKept (row ∷ rows) [] = ⊥
AreKept (row ∷ rows) (next ∷ later) = IsKept row next × AreKept rows later

all-same : (rows : List Row) → AreKept rows rows
all-same [] = tt
all-same (row ∷ rows) = (kept-same row, all-same rows)

kept-on : (xs ys zs : List Row) → AreKept xs ys → AreKept ys zs → AreKept xs zs
kept-on [] ys zs p q = tt
kept-on (x ∷ xs) [] zs p q = absurd p
kept-on (x ∷ xs) (y ∷ ys) [] p q = absurd q
kept-on (x ∷ xs) (y ∷ ys) (z ∷ zs) p q = ((q.0.0 ∙ p.0.0, λ needs served. q.0.1 needs (p.0.1 needs served)), kept-on xs ys zs p.1 q.1)

-- one of two
either-kept : (b : Bool) (row new : Row) (rows one other : List Row) → IsKept row new → AreKept rows one → AreKept rows other → AreKept (row ∷ rows) (cond b (new ∷ one) (row ∷ other))
either-kept true row new rows one other changed_ first second = (changed_, first)
either-kept false row new rows one other changed_ first second = (kept-same row, second)

change-kept : (test : Row → Bool) (f : Row → Row) → ((row : Row) → is_sound row ≡ true → IsKept row (f row)) → (rows : List Row) → are_sound rows ≡ true → AreKept rows (change_first test f rows)
change-kept test f keeps [] all = tt
change-kept test f keeps (row ∷ rows) all =
    let parts = and_parts (is_sound row) (are_sound rows) all in
    either-kept (test row) row (f row) rows rows (change_first test f rows) (keeps row parts.0) (all-same rows) (change-kept test f keeps rows parts.1)

started-kept : (test : Row → Bool) (number at : ℕ) (rows : List Row) → AreKept rows (started test number at rows)
started-kept test number at [] = tt
started-kept test number at (row ∷ rows) =
    either-kept (test row) row (scheduled number at row) rows (started test (number + 1) at rows) (started test number at rows) (scheduled-kept number at row)
    (started-kept test (number + 1) at rows) (started-kept test number at rows)

settled-kept : (contents : Contents) (at : ℕ) → AreKept contents.rows (settled contents at).rows
unfolding settled
settled-kept contents at = started-kept (is_ready contents.rows) contents.next at contents.rows

taken-kept : (claim : Claim) (names : List RunName) (rows : List Row) → are_sound rows ≡ true → AreKept rows (all_claimed claim names rows)
taken-kept claim [] rows all = all-same rows
taken-kept claim (name ∷ names) rows all =
    let next : List Row = change_row name.id (claimed claim) rows in
    kept-on rows next (all_claimed claim names next) (change-kept (has_id name.id) (claimed claim) (λ row sound. claimed-kept claim row) rows all)
    (taken-kept claim names next (change-sound (has_id name.id) (claimed claim) (claimed-sound claim) rows all))

more-kept : (rows : List Row) (row : Row) → AreKept rows (rows ++ row ∷ [])
more-kept [] row = tt
more-kept (first ∷ rows) row = (kept-same first, more-kept rows row)

-- ---- what falls due

either-contents : (b : Bool) (rows : List Row) (one other : Contents) → AreKept rows one.rows → AreKept rows other.rows → (let now : Contents = cond b one other in AreKept rows now.rows)
either-contents true rows one other first second = first
either-contents false rows one other first second = second

resolved-at-kept : (contents : Contents) (at : ℕ) → are_sound contents.rows ≡ true → AreKept contents.rows (resolved_at contents at).rows
resolved-at-kept contents at all =
    either-contents (list_any (meets_deadline at) contents.rows) contents.rows _ _
    (change-kept (meets_deadline at) (exceeded at) (λ row sound. exceeded-kept at row) contents.rows all)
    (change-kept (loses_claim at) (expired contents.next at) (λ row sound. expired-kept contents.next at row) contents.rows all)

first-kept : (contents : Contents) (first : Option ℕ) → are_sound contents.rows ≡ true → AreKept contents.rows (after_first contents first).rows
first-kept contents None all = all-same contents.rows
first-kept contents (Some at) all =
    let resolved_ = resolved_at contents at in
    kept-on contents.rows resolved_.rows (settled resolved_ at).rows (resolved-at-kept contents at all) (settled-kept resolved_ at)

turns-kept : (count moment : ℕ) (contents : Contents) → are_sound contents.rows ≡ true → AreKept contents.rows (turns count moment contents).rows
turns-kept zero moment contents all = all-same contents.rows
turns-kept (suc count) moment contents all =
    let next = turn moment contents in
    kept-on contents.rows next.rows (turns count moment next).rows (first-kept contents (first_due contents moment) all)
    (turns-kept count moment next (first-sound contents (first_due contents moment) all))

advance-kept : (contents : Contents) (moment : ℕ) → are_sound contents.rows ≡ true → AreKept contents.rows (advance contents moment).rows
unfolding advance
advance-kept contents moment all = turns-kept (length (all_due_moments contents.rows)) moment contents all

-- ---- changes and entries

kind-kept : (contents : Contents) (at : ℕ) (kind : Kind) → are_sound contents.rows ≡ true → AreKept contents.rows (after_kind contents at kind).rows
kind-kept contents at Tick all = advance-kept contents at all
kind-kept contents at (Create creation) all = more-kept contents.rows (new_row creation.id creation.definition)
kind-kept contents at (Schedule id) all = change-kept (has_id id) (scheduled contents.next at) (λ row sound. scheduled-kept contents.next at row) contents.rows all
kind-kept contents at (Rerun id) all = change-kept (has_id id) (run_again contents.next at) (λ row sound. again-kept contents.next at row) contents.rows all
kind-kept contents at (Cancel id) all = change-kept (has_id id) (canceled at) (λ row sound. canceled-kept at row) contents.rows all
kind-kept contents at (TakesRuns claim) all = taken-kept (claim_of at claim) claim.runs contents.rows all
kind-kept contents at (Reclaim r) all = change-kept (has_id r.id) (reclaimed r.run r.taken_until) (λ row sound. reclaimed-kept r.run r.taken_until row) contents.rows all
kind-kept contents at (Resolve r) all =
    change-kept (has_id r.id) (resolved r.run (reason_of r.reason) contents.next at) (λ row sound. resolved-kept r.run (reason_of r.reason) contents.next at row sound) contents.rows all

after-kept : (contents : Contents) (at : ℕ) (kind : Kind) → are_sound contents.rows ≡ true → AreKept contents.rows (after_change contents at kind).rows
after-kept contents at kind all =
    after-holds (λ c. AreKept contents.rows c.rows) contents at (λ c kept. kept-on contents.rows c.rows (settled c at).rows kept (settled-kept c at)) kind
    (kind-kept contents at kind all)

applied-kept : (contents : Contents) (change : Change) → are_sound contents.rows ≡ true → AreKept contents.rows (applied contents change).rows
unfolding applied
applied-kept contents change all = after-kept contents change.at change.kind all

changed-kept : (contents : Contents) (moment : ℕ) (change : Option Change) → are_sound contents.rows ≡ true → AreKept contents.rows (changed contents moment change).rows
changed-kept contents moment None all = all-same contents.rows
changed-kept contents moment (Some change) all = applied-kept contents change all

entry-kept : (state : State) (entry : Entry) → are_sound state.contents.rows ≡ true → AreKept state.contents.rows (after state entry).contents.rows
entry-kept state (tick moment) all = advance-kept state.contents moment all
entry-kept state (call asking out_of_memory) all = all-same state.contents.rows
entry-kept state (call asking disk_failed) all = all-same state.contents.rows
entry-kept state (call asking was_halted) all = all-same state.contents.rows
entry-kept state (call asking (finished judgement)) all = changed-kept state.contents (moment_of state.contents asking) judgement.change all

entries-kept : (state : State) (entries : List Entry) → are_sound state.contents.rows ≡ true → AreKept state.contents.rows (end_state farm_rules state entries).contents.rows
unfolding farm_rules
entries-kept state [] all = all-same state.contents.rows
entries-kept state (entry ∷ rest) all =
    kept-on state.contents.rows (after state entry).contents.rows (end_state farm_rules (after state entry) rest).contents.rows (entry-kept state entry all)
    (entries-kept (after state entry) rest (entry-sound state entry all))

-- ---- the task with an id

served-later : (needs : Requires) (id : List ℕ) (rows later : List Row) → AreKept rows later → id_serves needs rows id ≡ true → id_serves needs later id ≡ true
served-later needs id [] later kept is = cc
served-later needs id (row ∷ rows) [] kept is = absurd kept
served-later needs id (row ∷ rows) (next ∷ later) kept is = by (served-later needs id rows later kept.1) (bytes_eq row.id id) refl where
  by : (id_serves needs rows id ≡ true → id_serves needs later id ≡ true) → (b : Bool) → bytes_eq row.id id ≡ b → id_serves needs (next ∷ later) id ≡ true
  by rest true same =
      let here : serves needs row ≡ true = rw same at is in
      let also : bytes_eq next.id id ≡ true = ap (λ (i : List ℕ). bytes_eq i id) kept.0.0 ∙ same in
      rw also (kept.0.1 needs here)
  by rest false other =
      let also : bytes_eq next.id id ≡ false = ap (λ (i : List ℕ). bytes_eq i id) kept.0.0 ∙ other in
      rw also (rest (rw other at is))

pub served-for-good : (opening : State) (records : List Change) (before later : List Entry) (needs : Requires) (id : List ℕ) → Restores records opening.contents
    → id_serves needs (end_state farm_rules opening before).contents.rows id ≡ true → id_serves needs (end_state farm_rules opening (before ++ later)).contents.rows id ≡ true
served-for-good opening records before later needs id restored is =
    let state = end_state farm_rules opening before in
    let sound = entries-sound opening before (restored-sound records opening.contents restored) in
    rw (end_state-append farm_rules opening before later)
    (served-later needs id state.contents.rows (end_state farm_rules state later).contents.rows (entries-kept state later sound) is)
