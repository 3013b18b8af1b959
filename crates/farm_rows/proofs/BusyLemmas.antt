-- The tasks that a change names have runs once it is made, and so they stay as the tasks settle.
use Rattle.std.proofs.Common.{◌≡◌, ℕ, ◌+◌, Bool, true, false, not, ◌&&◌, ◌==◌, List, [], ◌∷◌, ◌++◌, map, length, bytes_eq, is_none, Option, Some, None, slice_get, nat_le, nat_lt, refl, ap, sym, ◌∙◌, subst}
use Rattle.std.specs.List.{AllByRecursion, last_or}
use Rattle.std.specs.Option.{option_map_or, option_to_list}
use Rattle.std.proofs.lemmas.Bool.{and_parts}
use Rattle.std.proofs.lemmas.Slice.Eq.{bytes_eq-Decides}
use Rattle.task_types.specs.declared.names.TaskQueue.{TaskQueue}
use Rattle.run_states.specs.declared.run.Run.{Run}
use Rattle.run_states.specs.Runs.{is_pending_run, is_running_run}
use Rattle.run_states.specs.Rows.{Row, is_unscheduled, is_resolved, is_pending, is_running_at, has_ended, scheduled}
use Rattle.run_states.specs.Moves.{may_rerun, run_again, canceled, reclaimed, resolved}
use Rattle.run_states.specs.Later.{RowsLater}
use Rattle.run_states.proofs.LaterLemmas.{scheduled-later, again-later, canceled-later, reclaimed-later, resolved-later}
use Rattle.task_types.specs.declared.change.RunName.{RunName}
use Rattle.farm_rows.specs.declared.plan.Deed.{Deed}
use Rattle.farm_rows.specs.declared.plan.Deed.TheVariants.{Create, Schedule, Rerun, Cancel, Claim as TakesRuns, Reclaim, Resolve}
use Rattle.task_index.specs.Contents.{Contents, row_with, HaveOwnIds}
use Rattle.task_index.specs.Changes.{on_row, change_row, reason_of, claim_of, may_keep, are_first, may_be}
use Rattle.task_index.specs.Ready.{is_ready, started, settled}
use Rattle.farm_rows.specs.Deeds.{kind_of, row_of, rows_after}
use Rattle.task_index.specs.Picks.{is_same_queue, pick, names_last, are_picks, without}
use Rattle.task_index.specs.Plans.{names_of, rows_with}
use Rattle.farm_rows.proofs.ChangeLemmas.{found}
use Rattle.task_index.proofs.IdLemmas.{claimed-stays}
use Rattle.task_index.proofs.ReadyLemmas.{some-last, scheduled-busy, later-busy, ready-free}
use Rattle.farm_rows.proofs.ShownLemmas.{Keeps, changed-found, pick-one, each-without, Stands, each-stands}

-- ---- a task with runs stays as the tasks settle

started-found : (test : Row → Bool) → ((row : Row) → test row ≡ true → is_unscheduled row ≡ true) → (number at : ℕ) (id : List ℕ) (rows : List Row) → on_row is_unscheduled id rows ≡ false → row_with id (started test number at rows) ≡ row_with id rows
started-found test free number at id [] busy = refl
started-found test free number at id (row ∷ rows) busy = by (started-found test free number at id rows) (started-found test free (number + 1) at id rows) (test row) refl (bytes_eq row.id id) refl where
  by : (on_row is_unscheduled id rows ≡ false → row_with id (started test number at rows) ≡ row_with id rows)
      → (on_row is_unscheduled id rows ≡ false → row_with id (started test (number + 1) at rows) ≡ row_with id rows)
      → (b : Bool) → test row ≡ b → (d : Bool) → bytes_eq row.id id ≡ d → row_with id (started test number at (row ∷ rows)) ≡ row_with id (row ∷ rows)
  by here more true is true same = let stays : is_unscheduled row ≡ false = rw same at busy in let starts : is_unscheduled row ≡ true = free row is in cc
  by here more true is false other = rw (is, other) (more (rw other at busy))
  by here more false is true same = rw (is, same) refl
  by here more false is false other = rw (is, other) (here (rw other at busy))

pub settled-found : (contents : Contents) (at : ℕ) (id : List ℕ) → on_row is_unscheduled id contents.rows ≡ false → row_with id (settled contents at).rows ≡ row_with id contents.rows
unfolding settled
settled-found contents at id busy = started-found (is_ready contents.rows) (ready-free contents.rows) contents.next at id contents.rows busy

-- the tasks with these ids have runs
abbrev pub AreBusy : List (List ℕ) → List Row → Type 0
AreBusy [] rows = Unit {0}
AreBusy (id ∷ ids) rows = (on_row is_unscheduled id rows ≡ false) × AreBusy ids rows

pub settled-shown : (contents : Contents) (at : ℕ) (ids : List (List ℕ)) → AreBusy ids contents.rows → rows_with ids contents.rows ≡ rows_with ids (settled contents at).rows
settled-shown contents at [] busy = refl
settled-shown contents at (id ∷ ids) busy =
    ap (λ (o : Option Row). option_to_list o ++ rows_with ids contents.rows) (sym (settled-found contents at id busy.0))
    ∙ ap (λ (rs : List Row). option_to_list (row_with id (settled contents at).rows) ++ rs) (settled-shown contents at ids busy.1)

-- ---- tasks that have runs

busy-runs : (row : Row) (run : Run) (runs : List Run) → row.runs ≡ run ∷ runs → is_unscheduled row ≡ false
busy-runs row run runs is = ap (λ (rs : List Run). is_none (last_or None rs)) is ∙ some-last run runs

ended-some : (o : Option Run) → has_ended o ≡ true → is_none o ≡ false
ended-some None is = cc
ended-some (Some run) is = refl

resolved-busy : (row : Row) → is_resolved row ≡ true → is_unscheduled row ≡ false
resolved-busy row is = ended-some (last_or None row.runs) is

pending-some : (o : Option Run) → option_map_or is_pending_run o false ≡ true → is_none o ≡ false
pending-some None is = cc
pending-some (Some run) is = refl

pending-busy : (row : Row) → is_pending row ≡ true → is_unscheduled row ≡ false
pending-busy row is = pending-some (last_or None row.runs) is

running-busy : (number : ℕ) (runs : List Run) → option_map_or is_running_run (slice_get runs number) false ≡ true → is_none (last_or None runs) ≡ false
running-busy number [] is = cc
running-busy number (run ∷ runs) is = some-last run runs

canceled-busy : (at : ℕ) (row : Row) → is_unscheduled (canceled at row) ≡ false
canceled-busy at row = by row.runs refl where
  by : (runs : List Run) → row.runs ≡ runs → is_unscheduled (canceled at row) ≡ false
  by [] is = rw is refl
  by (run ∷ runs) is = later-busy row (canceled at row) (canceled-later at row) (busy-runs row run runs is)

-- a task that is found and has runs has them later
later-found : (id : List ℕ) (rows after : List Row) → RowsLater rows after → (r : Row) → row_with id rows ≡ Some r → is_unscheduled r ≡ false → on_row is_unscheduled id after ≡ false
later-found id [] after later r is busy = cc
later-found id (row ∷ rows) [] later r is busy = absurd later
later-found id (row ∷ rows) (other ∷ after) later r is busy = by (later-found id rows after later.1 r) (bytes_eq row.id id) refl where
  also : (b : Bool) → bytes_eq row.id id ≡ b → bytes_eq other.id id ≡ b
  also b same = ap (λ (i : List ℕ). bytes_eq i id) later.0.id ∙ same

  by : (row_with id rows ≡ Some r → is_unscheduled r ≡ false → on_row is_unscheduled id after ≡ false) → (b : Bool) → bytes_eq row.id id ≡ b → on_row is_unscheduled id (other ∷ after) ≡ false
  by rest true same =
      let here : Some row ≡ Some r = rw same at is in
      let one : row ≡ r = cc in
      rw (also true same) (later-busy row other later.0 (subst (λ (x : Row). is_unscheduled x ≡ false) (sym one) busy))
  by rest false no_ = rw (also false no_) (rest (rw no_ at is) busy)

-- ---- runs that are picked

claims-busy : (queue : TaskQueue) (names : List RunName) (all after rows : List Row) → RowsLater all after → AllByRecursion (Stands all) rows → are_picks queue names rows ≡ true → AreBusy (map (λ name. name.id) names) after
claims-busy queue [] all after rows later stand are = tt
claims-busy queue (name ∷ names) all after rows later stand are = (by (pick queue rows) refl parts.0, claims-busy queue names all after (without name.id rows) later (each-without (Stands all) name.id rows stand) parts.1) where
  parts : (option_map_or (names_last name) (pick queue rows) false ≡ true) × (are_picks queue names (without name.id rows) ≡ true)
  parts = and_parts (option_map_or (names_last name) (pick queue rows) false) (are_picks queue names (without name.id rows)) are

  by : (o : Option Row) → pick queue rows ≡ o → option_map_or (names_last name) o false ≡ true → on_row is_unscheduled name.id after ≡ false
  by None is named = cc
  by (Some r) is named =
      let same : r.id ≡ name.id = (bytes_eq-Decides r.id name.id).0 (and_parts (bytes_eq r.id name.id) (length r.runs == name.run + 1) named).0 in
      let one = pick-one (Stands all) queue rows r stand is in
      let pending : is_pending r ≡ true = (and_parts (is_pending r) (is_same_queue r.definition.queue queue) one.0).0 in
      let found_ : row_with name.id all ≡ Some r = subst (λ (id : List ℕ). row_with id all ≡ Some r) same one.1 in
      later-found name.id all after later r found_ (pending-busy r pending)

first-busy : (names : List RunName) (all after : List Row) → RowsLater all after → HaveOwnIds all → are_first names all ≡ true → AreBusy (map (λ name. name.id) names) after
first-busy [] all after later own are = tt
first-busy (name ∷ names) all after later own are = by (row_with name.id all) are where
  by : (o : Option Row) → option_map_or (λ row. are_picks row.definition.queue (name ∷ names) all) o false ≡ true → AreBusy (map (λ name. name.id) (name ∷ names)) after
  by None are = cc
  by (Some row) are = claims-busy row.definition.queue (name ∷ names) all after all later (each-stands all own) are

-- ---- the tasks that a change names

-- the task is changed, and has runs then
changed-busy : (test : Row → Bool) (id : List ℕ) (f : Row → Row) → Keeps f → ((row : Row) → test row ≡ true → is_unscheduled (f row) ≡ false) → (rows : List Row) → on_row test id rows ≡ true → on_row is_unscheduled id (change_row id f rows) ≡ false
changed-busy test id f keeps busy rows on =
    let one = found test id rows on in
    ap (λ (o : Option Row). option_map_or is_unscheduled o false) (changed-found id f keeps rows one.row one.is) ∙ busy one.row one.passes

again-busy : (number at : ℕ) (row : Row) → may_rerun at row ≡ true → is_unscheduled (run_again number at row) ≡ false
again-busy number at row may =
    let was = (and_parts (is_resolved row) (nat_lt at row.definition.deadline && nat_lt (length row.runs) 50) may).0 in
    later-busy row (run_again number at row) (again-later number at row) (resolved-busy row was)

pub deed-busy : (contents : Contents) (at number : ℕ) (deed : Deed) → row_of deed ≡ None → HaveOwnIds contents.rows → may_be contents at (kind_of deed) ≡ true → AreBusy (names_of (kind_of deed)) (rows_after at number deed contents.rows)
deed-busy contents at number (Create row) none own may = cc
deed-busy contents at number (Schedule id) none own may =
    (changed-busy is_unscheduled id (scheduled number at) (λ row. (scheduled-later number at row).id) (λ row free. scheduled-busy number at row) contents.rows may, tt)
deed-busy contents at number (Rerun id) none own may =
    (changed-busy (may_rerun at) id (run_again number at) (λ row. (again-later number at row).id) (again-busy number at) contents.rows may, tt)
deed-busy contents at number (Cancel id) none own may =
    (changed-busy (λ (row : Row). not (is_resolved row)) id (canceled at) (λ row. (canceled-later at row).id) (λ row open_. canceled-busy at row) contents.rows may, tt)
deed-busy contents at number (TakesRuns claim) none own may =
    let parts = and_parts (may_keep at claim.taken_until) (nat_le (length claim.runs) 32 && are_first claim.runs contents.rows) may in
    let first = (and_parts (nat_le (length claim.runs) 32) (are_first claim.runs contents.rows) parts.1).1 in
    first-busy claim.runs contents.rows (rows_after at number (TakesRuns claim) contents.rows) (claimed-stays (claim_of at claim) claim.runs contents.rows) own first
deed-busy contents at number (Reclaim r) none own may =
    let runs = (and_parts (may_keep at r.taken_until) (on_row (is_running_at r.run) r.id contents.rows) may).1 in (
      changed-busy (is_running_at r.run) r.id (reclaimed r.run r.taken_until) (λ row. (reclaimed-later r.run r.taken_until row).id)
          (λ row running. later-busy row (reclaimed r.run r.taken_until row) (reclaimed-later r.run r.taken_until row) (running-busy r.run row.runs running)) contents.rows runs,
      tt,
    )
deed-busy contents at number (Resolve r) none own may = (
  changed-busy (is_running_at r.run) r.id (resolved r.run (reason_of r.reason) number at) (λ row. (resolved-later r.run (reason_of r.reason) number at row).id)
      (λ row running. later-busy row (resolved r.run (reason_of r.reason) number at row) (resolved-later r.run (reason_of r.reason) number at row) (running-busy r.run row.runs running)) contents.rows may,
  tt,
)
