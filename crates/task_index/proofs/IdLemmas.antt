-- A task is created once: what ids tell.
use Rattle.std.proofs.Common.{◌≡◌, ℕ, Bool, true, false, not, ◌&&◌, List, [], ◌∷◌, ◌++◌, map, length, Option, Some, None, is_none, refl, sym, ◌∙◌, ap, bytes_eq, nat_le, nat_lt}
use Rattle.std.specs.List.{list_any}
use Rattle.std.specs.Cmp.Lexicographic.{nat_list_eq_equiv}
use Rattle.std.proofs.lemmas.Bool.{and_parts}
use Rattle.std.proofs.lemmas.List.Folds.{find-append}
use Rattle.std.proofs.lemmas.Map.Keys.{IsDistinct-push}
use Rattle.std.proofs.lemmas.Slice.Eq.{bytes_eq-Decides}
use Rattle.std.proofs.lemmas.List.{map-append}
use Rattle.farm_text.specs.declared.moment.TheConstants.{LAST_TOLD_MOMENT}
use Rattle.run_states.specs.Rows.{Row, new_row, scheduled}
use Rattle.run_states.specs.Later.{RowsLater}
use Rattle.run_states.specs.Moves.{run_again, canceled, claimed, reclaimed, resolved}
use Rattle.run_states.proofs.LaterLemmas.{RowLater-refl, RowsLater-refl, RowsLater-trans, scheduled-later, again-later, claimed-later, canceled-later, reclaimed-later, resolved-later}
use Rattle.task_types.specs.declared.change.Change.{Change}
use Rattle.task_types.specs.declared.change.Creation.{Creation}
use Rattle.task_types.specs.declared.change.Kind.{Kind}
use Rattle.task_types.specs.declared.change.Kind.TheVariants.{Tick, Create, Schedule, Rerun, Cancel, Claim as TakesRuns, Reclaim, Resolve}
use Rattle.task_types.specs.declared.change.RunName.{RunName}
use Rattle.run_states.specs.declared.run.Claim.{Claim as RunClaim}
use Rattle.task_index.specs.Contents.{Contents, row_with, HaveOwnIds}
use Rattle.task_index.specs.Ready.{is_ready, has_ready, settled_row, settled}
use Rattle.task_index.specs.Due.{is_due}
use Rattle.task_index.specs.Changes.{waits_well, may_join, may_create, creating, may_be, may_apply, has_id, reason_of, change_row, claim_of, all_claimed, after_kind, after_change, applied}
use Rattle.task_index.proofs.AdvanceLemmas.{advance-stays, advance-ids}
use Rattle.task_index.proofs.ReadyLemmas.{settled-none, settled-stays, settled-ids, settled-more}
use Rattle.task_index.proofs.DueLemmas.{change-stays, change-ids}

bytes_eq-refl : (bs : List ℕ) → bytes_eq bs bs ≡ true
bytes_eq-refl bs = (bytes_eq-Decides bs bs).1 refl

-- equality of bytes goes both ways
pub bytes_eq-other : (a b : List ℕ) → bytes_eq a b ≡ false → bytes_eq b a ≡ false
bytes_eq-other a b no_ = by (bytes_eq b a) refl where
  by : (t : Bool) → bytes_eq b a ≡ t → bytes_eq b a ≡ false
  by true is = let same : b ≡ a = (bytes_eq-Decides b a).0 is in let both : bytes_eq a b ≡ true = (bytes_eq-Decides a b).1 (sym same) in cc
  by false is = is

-- ---- what may be created

none_is : {A : Type 0} (o : Option A) → is_none o ≡ true → o ≡ None
none_is None is = refl
none_is (Some x) is = cc

pub may-create : (contents : Contents) (at : ℕ) (creation : Creation) → may_apply contents (creating at creation) ≡ true → (nat_le at LAST_TOLD_MOMENT ≡ true) × (row_with creation.id contents.rows ≡ None) × (nat_lt (length contents.rows) 1_000_000 ≡ true)
may-create contents at creation may =
    let later = (and_parts (nat_le contents.last at) (nat_le at LAST_TOLD_MOMENT && (not (is_due contents at) && may_create contents at creation)) may).1 in
    let told = and_parts (nat_le at LAST_TOLD_MOMENT) (not (is_due contents at) && may_create contents at creation) later in
    let idle = (and_parts (not (is_due contents at)) (may_create contents at creation) told.1).1 in
    let fewer : Bool = nat_lt (length contents.rows) 1_000_000 in
    let unknown = and_parts (is_none (row_with creation.id contents.rows)) (nat_lt at creation.definition.deadline && (waits_well creation contents.rows && (may_join creation contents.rows && fewer))) idle in
    let early = (and_parts (nat_lt at creation.definition.deadline) (waits_well creation contents.rows && (may_join creation contents.rows && fewer)) unknown.1).1 in
    let well = (and_parts (waits_well creation contents.rows) (may_join creation contents.rows && fewer) early).1 in
    let few = (and_parts (may_join creation contents.rows) fewer well).1 in
    (told.0, none_is (row_with creation.id contents.rows) unknown.0, few)

-- and it waits well
pub may-wait : (contents : Contents) (at : ℕ) (creation : Creation) → may_apply contents (creating at creation) ≡ true → waits_well creation contents.rows ≡ true
may-wait contents at creation may =
    let later = (and_parts (nat_le contents.last at) (nat_le at LAST_TOLD_MOMENT && (not (is_due contents at) && may_create contents at creation)) may).1 in
    let told = and_parts (nat_le at LAST_TOLD_MOMENT) (not (is_due contents at) && may_create contents at creation) later in
    let idle = (and_parts (not (is_due contents at)) (may_create contents at creation) told.1).1 in
    let fewer : Bool = nat_lt (length contents.rows) 1_000_000 in
    let unknown = and_parts (is_none (row_with creation.id contents.rows)) (nat_lt at creation.definition.deadline && (waits_well creation contents.rows && (may_join creation contents.rows && fewer))) idle in
    let early = (and_parts (nat_lt at creation.definition.deadline) (waits_well creation contents.rows && (may_join creation contents.rows && fewer)) unknown.1).1 in
    (and_parts (waits_well creation contents.rows) (may_join creation contents.rows && fewer) early).0

-- ---- what a creation leaves

-- the last of a list is found, where none before has its id
last-found : (id : List ℕ) (rows : List Row) (row : Row) → row_with id rows ≡ None → row.id ≡ id → row_with id (rows ++ row ∷ []) ≡ Some row
last-found id rows row none is =
    find-append (λ (r : Row). bytes_eq r.id id) rows (row ∷ []) ∙ rw (none, ap (λ (i : List ℕ). bytes_eq i id) is ∙ bytes_eq-refl id) refl

row-id : (contents : Contents) (at : ℕ) (row : Row) → (settled_row contents at row).id ≡ row.id
row-id contents at row = by (is_ready contents.rows row) refl where
  by : (b : Bool) → is_ready contents.rows row ≡ b → (settled_row contents at row).id ≡ row.id
  by true is = rw is refl
  by false is = rw is refl

pub created-stands : (contents : Contents) (at : ℕ) (creation : Creation) → has_ready contents ≡ false → may_apply contents (creating at creation) ≡ true
    → row_with creation.id (applied contents (creating at creation)).rows ≡ Some (settled_row contents at (new_row creation.id creation.definition))
unfolding applied
created-stands contents at creation none may =
    let row : Row = new_row creation.id creation.definition in
    ap (row_with creation.id) (settled-more contents at at row none refl)
    ∙ last-found creation.id contents.rows (settled_row contents at row) (may-create contents at creation may).1 (row-id contents at row)

pub created-refused : (contents : Contents) (at : ℕ) (creation : Creation) (row : Row) → row_with creation.id contents.rows ≡ Some row → may_apply contents (creating at creation) ≡ false
created-refused contents at creation row stands = by (may_apply contents (creating at creation)) refl where
  by : (b : Bool) → may_apply contents (creating at creation) ≡ b → may_apply contents (creating at creation) ≡ false
  by true may = let none : row_with creation.id contents.rows ≡ None = (may-create contents at creation may).1 in cc
  by false may_not = may_not

-- ---- each task keeps an id of its own

pub other-ids : (id : List ℕ) (rows : List Row) → row_with id rows ≡ None → list_any (bytes_eq id) (map (λ row. row.id) rows) ≡ false
other-ids id [] none = refl
other-ids id (row ∷ rows) none = by (other-ids id rows) (bytes_eq row.id id) refl where
  by : (row_with id rows ≡ None → list_any (bytes_eq id) (map (λ row. row.id) rows) ≡ false) → (b : Bool) → bytes_eq row.id id ≡ b → list_any (bytes_eq id) (map (λ row. row.id) (row ∷ rows)) ≡ false
  by rest true is = let some : Some row ≡ None = rw is at none in cc
  by rest false is = rw (bytes_eq-other row.id id is) (rest (rw is at none))

pub created-ids : (rows : List Row) (row : Row) → HaveOwnIds rows → row_with row.id rows ≡ None → HaveOwnIds (rows ++ row ∷ [])
created-ids rows row own none =
    rw (map-append (λ (row : Row). row.id) rows (row ∷ [])) (IsDistinct-push nat_list_eq_equiv (map (λ row. row.id) rows) row.id own (other-ids row.id rows none))

-- runs that are claimed, one after the other
pub claimed-ids : (claim : RunClaim) (names : List RunName) (rows : List Row) → map (λ row. row.id) (all_claimed claim names rows) ≡ map (λ row. row.id) rows
claimed-ids claim [] rows = refl
claimed-ids claim (name ∷ names) rows =
    claimed-ids claim names (change_row name.id (claimed claim) rows) ∙ change-ids (has_id name.id) (claimed claim) (claimed-later claim) rows

pub claimed-stays : (claim : RunClaim) (names : List RunName) (rows : List Row) → RowsLater rows (all_claimed claim names rows)
claimed-stays claim [] rows = RowsLater-refl rows
claimed-stays claim (name ∷ names) rows =
    let next : List Row = change_row name.id (claimed claim) rows in
    RowsLater-trans rows next (all_claimed claim names next) (change-stays (has_id name.id) (claimed claim) (claimed-later claim) rows) (claimed-stays claim names next)

-- what holds of the tasks and stays as they settle holds after a change
pub after-holds : (P : Contents → Type 0) (contents : Contents) (at : ℕ) → ((c : Contents) → P c → P (settled c at)) → (kind : Kind) → P (after_kind contents at kind) → P (after_change contents at kind)
after-holds P contents at keeps Tick holds = holds
after-holds P contents at keeps (Create creation) holds = keeps (after_kind contents at (Create creation)) holds
after-holds P contents at keeps (Schedule id) holds = keeps (after_kind contents at (Schedule id)) holds
after-holds P contents at keeps (Rerun id) holds = keeps (after_kind contents at (Rerun id)) holds
after-holds P contents at keeps (Cancel id) holds = keeps (after_kind contents at (Cancel id)) holds
after-holds P contents at keeps (TakesRuns claim) holds = keeps (after_kind contents at (TakesRuns claim)) holds
after-holds P contents at keeps (Reclaim r) holds = keeps (after_kind contents at (Reclaim r)) holds
after-holds P contents at keeps (Resolve r) holds = keeps (after_kind contents at (Resolve r)) holds

settled-own : (at : ℕ) (contents : Contents) → HaveOwnIds contents.rows → HaveOwnIds (settled contents at).rows
settled-own at contents own = rw (settled-ids contents at) own

after-ids : (contents : Contents) (at : ℕ) (kind : Kind) → HaveOwnIds contents.rows → may_apply contents (record { at = at; kind = kind }) ≡ true → HaveOwnIds (after_kind contents at kind).rows
after-ids contents at Tick own may = advance-ids contents at own
after-ids contents at (Create creation) own may = created-ids contents.rows (new_row creation.id creation.definition) own (may-create contents at creation may).1
after-ids contents at (Schedule id) own may = rw (change-ids (has_id id) (scheduled contents.next at) (scheduled-later contents.next at) contents.rows) own
after-ids contents at (Rerun id) own may = rw (change-ids (has_id id) (run_again contents.next at) (again-later contents.next at) contents.rows) own
after-ids contents at (Cancel id) own may = rw (change-ids (has_id id) (canceled at) (canceled-later at) contents.rows) own
after-ids contents at (TakesRuns claim) own may = rw (claimed-ids (claim_of at claim) claim.runs contents.rows) own
after-ids contents at (Reclaim r) own may = rw (change-ids (has_id r.id) (reclaimed r.run r.taken_until) (reclaimed-later r.run r.taken_until) contents.rows) own
after-ids contents at (Resolve r) own may =
    rw (change-ids (has_id r.id) (resolved r.run (reason_of r.reason) contents.next at) (resolved-later r.run (reason_of r.reason) contents.next at) contents.rows) own

pub applied-ids : (contents : Contents) (change : Change) → HaveOwnIds contents.rows → may_apply contents change ≡ true → HaveOwnIds (applied contents change).rows
unfolding applied
applied-ids contents change own may =
    let P : Contents → Type 0 = λ c. HaveOwnIds c.rows in
    after-holds P contents change.at (settled-own change.at) change.kind (after-ids contents change.at change.kind own may)

-- ---- each task stays

more-stay : (rows : List Row) (row : Row) → RowsLater rows (rows ++ row ∷ [])
more-stay [] row = tt
more-stay (first ∷ rows) row = (RowLater-refl first, more-stay rows row)

settled-later : (rows : List Row) (at : ℕ) (contents : Contents) → RowsLater rows contents.rows → RowsLater rows (settled contents at).rows
settled-later rows at contents later = RowsLater-trans rows contents.rows (settled contents at).rows later (settled-stays contents at)

after-stays : (contents : Contents) (at : ℕ) (kind : Kind) → RowsLater contents.rows (after_kind contents at kind).rows
after-stays contents at Tick = advance-stays contents at
after-stays contents at (Create creation) = more-stay contents.rows (new_row creation.id creation.definition)
after-stays contents at (Schedule id) = change-stays (has_id id) (scheduled contents.next at) (scheduled-later contents.next at) contents.rows
after-stays contents at (Rerun id) = change-stays (has_id id) (run_again contents.next at) (again-later contents.next at) contents.rows
after-stays contents at (Cancel id) = change-stays (has_id id) (canceled at) (canceled-later at) contents.rows
after-stays contents at (TakesRuns claim) = claimed-stays (claim_of at claim) claim.runs contents.rows
after-stays contents at (Reclaim r) = change-stays (has_id r.id) (reclaimed r.run r.taken_until) (reclaimed-later r.run r.taken_until) contents.rows
after-stays contents at (Resolve r) =
    change-stays (has_id r.id) (resolved r.run (reason_of r.reason) contents.next at) (resolved-later r.run (reason_of r.reason) contents.next at) contents.rows

pub applied-stays : (contents : Contents) (change : Change) → RowsLater contents.rows (applied contents change).rows
unfolding applied
applied-stays contents change =
    let P : Contents → Type 0 = λ c. RowsLater contents.rows c.rows in
    after-holds P contents change.at (settled-later contents.rows change.at) change.kind (after-stays contents change.at change.kind)

-- ---- no task is ready after a change

after-none : (contents : Contents) (at : ℕ) (kind : Kind) → may_be contents at kind ≡ true → has_ready (after_change contents at kind) ≡ false
after-none contents at Tick may = cc
after-none contents at (Create creation) may = settled-none (after_kind contents at (Create creation)) at
after-none contents at (Schedule id) may = settled-none (after_kind contents at (Schedule id)) at
after-none contents at (Rerun id) may = settled-none (after_kind contents at (Rerun id)) at
after-none contents at (Cancel id) may = settled-none (after_kind contents at (Cancel id)) at
after-none contents at (TakesRuns claim) may = settled-none (after_kind contents at (TakesRuns claim)) at
after-none contents at (Reclaim r) may = settled-none (after_kind contents at (Reclaim r)) at
after-none contents at (Resolve r) may = settled-none (after_kind contents at (Resolve r)) at

pub applied-none : (contents : Contents) (change : Change) → may_apply contents change ≡ true → has_ready (applied contents change) ≡ false
unfolding applied
applied-none contents change may =
    let later = (and_parts (nat_le contents.last change.at) (nat_le change.at LAST_TOLD_MOMENT && (not (is_due contents change.at) && may_be contents change.at change.kind)) may).1 in
    let told = (and_parts (nat_le change.at LAST_TOLD_MOMENT) (not (is_due contents change.at) && may_be contents change.at change.kind) later).1 in
    let be = (and_parts (not (is_due contents change.at)) (may_be contents change.at change.kind) told).1 in
    after-none contents change.at change.kind be
