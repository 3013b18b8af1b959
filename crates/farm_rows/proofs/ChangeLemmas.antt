-- A change of the tasks that stand: what it leaves, and what the tables keep.
use Rattle.std.proofs.Common.{◌≡◌, ℕ, ◌+◌, ◌≤◌, Bool, true, false, not, ◌&&◌, List, [], ◌∷◌, map, length, count_by, bytes_eq, Option, Some, None, refl, ap, sym, ◌∙◌, subst, arith, nat_le}
use Rattle.std.specs.List.{list_all, IsDistinct}
use Rattle.std.specs.Option.{option_map_or}
use Rattle.std.proofs.lemmas.Bool.{leb-true, and_parts}
use Rattle.farm_text.specs.declared.moment.TheConstants.{LAST_TOLD_MOMENT}
use Rattle.run_states.specs.declared.reasons.ReasonResolved.{ReasonResolved}
use Rattle.run_states.specs.declared.reasons.ReasonResolved.TheVariants.{Canceled}
use Rattle.run_states.specs.declared.run.Claim.{Claim as RunClaim}
use Rattle.run_states.specs.Rows.{Row, is_unscheduled, is_running_at, scheduled}
use Rattle.run_states.specs.Moves.{may_rerun, run_again, canceled, claimed, reclaimed, resolved}
use Rattle.task_types.specs.declared.change.RunName.{RunName}
use Rattle.farm_rows.specs.declared.plan.Deed.{Deed}
use Rattle.farm_rows.specs.declared.plan.Deed.TheVariants.{Create, Schedule, Rerun, Cancel, Claim as TakesRuns, Reclaim, Resolve}
use Rattle.task_index.specs.Contents.{Contents, row_with}
use Rattle.task_index.specs.Ready.{is_ready, has_ready, started, settled}
use Rattle.task_index.specs.Due.{is_due, draws}
use Rattle.task_index.specs.Changes.{on_row, may_be, may_apply, has_id, change_row, reason_of, claim_of, all_claimed, applied}
use Rattle.farm_rows.specs.Deeds.{kind_of, change_of, row_of, rows_after, drawn_by}
use Rattle.task_index.specs.Plans.{room_for}
use Rattle.task_index.specs.Sweep.{numbered, runs_made, fits, IsKept}
use Rattle.run_states.proofs.LaterLemmas.{scheduled-later, again-later, canceled-later, reclaimed-later, resolved-later}
use Rattle.task_index.proofs.DueLemmas.{change-length, change-ids}
use Rattle.farm_rows.proofs.StepLemmas.{scheduled-fits, scheduled-more, settled-fits, settled-made, settled-numbered}
use Rattle.task_index.proofs.ReadyLemmas.{settled-none, settled-ids, settled-length, settled-last}
use Rattle.task_index.proofs.IdLemmas.{claimed-ids}
use Rattle.farm_rows.proofs.FitLemmas.{change-fits, change-made, found-made, again-fits, again-more, finished-fits, canceled-more, claimed-fits, claimed-more, reclaimed-fits, reclaimed-more, resolved-fits, resolved-more, draws-few}

-- the contents of these parts
abbrev contents_of : List Row → ℕ → ℕ → Contents
contents_of rows last next = record { rows = rows; last = last; next = next }

-- the task with an id that passes a test
pub record Found (test : Row → Bool) (id : List ℕ) (rows : List Row) : Type 0 where
  pub row : Row
  pub is : row_with id rows ≡ Some row
  pub passes : test row ≡ true

pub found : (test : Row → Bool) (id : List ℕ) (rows : List Row) → on_row test id rows ≡ true → Found test id rows
found test id rows holds = by (row_with id rows) refl holds where
  by : (o : Option Row) → row_with id rows ≡ o → option_map_or test o false ≡ true → Found test id rows
  by None is holds = cc
  by (Some row) is holds = record { row = row; is = is; passes = holds }

-- what a change that may be made tells
pub record May (contents : Contents) (at : ℕ) (deed : Deed) : Type 0 where
  pub told : at ≤ LAST_TOLD_MOMENT
  pub be : may_be contents at (kind_of deed) ≡ true

pub may-is : (contents : Contents) (at : ℕ) (deed : Deed) → may_apply contents (change_of at deed) ≡ true → May contents at deed
may-is contents at deed may =
    let later = (and_parts (nat_le contents.last at) (nat_le at LAST_TOLD_MOMENT && (not (is_due contents at) && may_be contents at (kind_of deed))) may).1 in
    let told = and_parts (nat_le at LAST_TOLD_MOMENT) (not (is_due contents at) && may_be contents at (kind_of deed)) later in
    let idle = (and_parts (not (is_due contents at)) (may_be contents at (kind_of deed)) told.1).1 in
    record { told = leb-true at LAST_TOLD_MOMENT told.0; be = idle }

-- ---- what a change leaves

-- the tasks once a change of these is made, before they settle
abbrev pub unsettled : Contents → ℕ → Deed → Contents
unsettled contents at deed = contents_of (rows_after at contents.next deed contents.rows) at (contents.next + drawn_by deed contents.rows)

pub rows-applied : (contents : Contents) (at : ℕ) (deed : Deed) → row_of deed ≡ None → settled (unsettled contents at deed) at ≡ applied contents (change_of at deed)
unfolding applied
rows-applied contents at (Create row) none = cc
rows-applied contents at (Schedule id) none = refl
rows-applied contents at (Rerun id) none = refl
rows-applied contents at (Cancel id) none = refl
rows-applied contents at (TakesRuns claim) none = refl
rows-applied contents at (Reclaim r) none = refl
rows-applied contents at (Resolve r) none = refl

-- runs that are claimed, one after the other
claimed-length : (claim : RunClaim) (names : List RunName) (rows : List Row) → length (all_claimed claim names rows) ≡ length rows
claimed-length claim [] rows = refl
claimed-length claim (name ∷ names) rows = claimed-length claim names (change_row name.id (claimed claim) rows) ∙ change-length (has_id name.id) (claimed claim) rows

claimed-all : (claim : RunClaim) (names : List RunName) (rows : List Row) → list_all fits rows ≡ true → list_all fits (all_claimed claim names rows) ≡ true
claimed-all claim [] rows all = all
claimed-all claim (name ∷ names) rows all =
    claimed-all claim names (change_row name.id (claimed claim) rows) (change-fits (has_id name.id) (claimed claim) (claimed-fits claim) rows all)

claimed-made : (claim : RunClaim) (names : List RunName) (rows : List Row) → runs_made rows ≤ runs_made (all_claimed claim names rows)
claimed-made claim [] rows = omega arith
claimed-made claim (name ∷ names) rows =
    let here = change-made (has_id name.id) (claimed claim) (λ o. 0) refl (λ row passes. claimed-more claim row) rows in
    let there = claimed-made claim names (change_row name.id (claimed claim) rows) in
    omega arith

length-after : (at number : ℕ) (deed : Deed) (rows : List Row) → length (rows_after at number deed rows) ≡ length rows
length-after at number (Create row) rows = refl
length-after at number (Schedule id) rows = change-length (has_id id) (scheduled number at) rows
length-after at number (Rerun id) rows = change-length (has_id id) (run_again number at) rows
length-after at number (Cancel id) rows = change-length (has_id id) (canceled at) rows
length-after at number (TakesRuns claim) rows = claimed-length (claim_of at claim) claim.runs rows
length-after at number (Reclaim r) rows = change-length (has_id r.id) (reclaimed r.run r.taken_until) rows
length-after at number (Resolve r) rows = change-length (has_id r.id) (resolved r.run (reason_of r.reason) number at) rows

fits-after : (at number : ℕ) (deed : Deed) (rows : List Row) → list_all fits rows ≡ true → list_all fits (rows_after at number deed rows) ≡ true
fits-after at number (Create row) rows all = all
fits-after at number (Schedule id) rows all = change-fits (has_id id) (scheduled number at) (scheduled-fits number at) rows all
fits-after at number (Rerun id) rows all = change-fits (has_id id) (run_again number at) (again-fits number at) rows all
fits-after at number (Cancel id) rows all = change-fits (has_id id) (canceled at) (finished-fits Canceled at) rows all
fits-after at number (TakesRuns claim) rows all = claimed-all (claim_of at claim) claim.runs rows all
fits-after at number (Reclaim r) rows all = change-fits (has_id r.id) (reclaimed r.run r.taken_until) (reclaimed-fits r.run r.taken_until) rows all
fits-after at number (Resolve r) rows all = change-fits (has_id r.id) (resolved r.run (reason_of r.reason) number at) (resolved-fits r.run (reason_of r.reason) number at) rows all

-- each number that is drawn is of a new run
made-after : (contents : Contents) (at number : ℕ) (deed : Deed) → may_be contents at (kind_of deed) ≡ true → runs_made contents.rows + drawn_by deed contents.rows ≤ runs_made (rows_after at number deed contents.rows)
made-after contents at number (Create row) may = omega arith
made-after contents at number (Schedule id) may =
    let f = found is_unscheduled id contents.rows may in
    found-made (has_id id) (scheduled number at) contents.rows f.row 1 f.is (scheduled-more number at f.row f.passes)
made-after contents at number (Rerun id) may =
    let f = found (may_rerun at) id contents.rows may in
    found-made (has_id id) (run_again number at) contents.rows f.row 1 f.is (again-more number at f.row f.passes)
made-after contents at number (Cancel id) may = change-made (has_id id) (canceled at) (λ o. 0) refl (λ row passes. canceled-more at row) contents.rows
made-after contents at number (TakesRuns claim) may = let m = claimed-made (claim_of at claim) claim.runs contents.rows in omega arith
made-after contents at number (Reclaim r) may = change-made (has_id r.id) (reclaimed r.run r.taken_until) (λ o. 0) refl (λ row passes. reclaimed-more r.run r.taken_until row) contents.rows
made-after contents at number (Resolve r) may =
    let f = found (is_running_at r.run) r.id contents.rows may in
    let reason : ReasonResolved = reason_of r.reason in
    let e : draws reason (row_with r.id contents.rows) ≡ draws reason (Some f.row) = ap (draws reason) f.is in
    let more = found-made (has_id r.id) (resolved r.run reason number at) contents.rows f.row (draws reason (Some f.row)) f.is (resolved-more r.run reason number at f.row f.passes) in
    omega arith

-- each task keeps its id
pub ids-after : (at number : ℕ) (deed : Deed) (rows : List Row) → map (λ row. row.id) (rows_after at number deed rows) ≡ map (λ row. row.id) rows
ids-after at number (Create row) rows = refl
ids-after at number (Schedule id) rows = change-ids (has_id id) (scheduled number at) (scheduled-later number at) rows
ids-after at number (Rerun id) rows = change-ids (has_id id) (run_again number at) (again-later number at) rows
ids-after at number (Cancel id) rows = change-ids (has_id id) (canceled at) (canceled-later at) rows
ids-after at number (TakesRuns claim) rows = claimed-ids (claim_of at claim) claim.runs rows
ids-after at number (Reclaim r) rows = change-ids (has_id r.id) (reclaimed r.run r.taken_until) (reclaimed-later r.run r.taken_until) rows
ids-after at number (Resolve r) rows = change-ids (has_id r.id) (resolved r.run (reason_of r.reason) number at) (resolved-later r.run (reason_of r.reason) number at) rows

-- ---- what the tables keep

-- the tables after a change: the tasks and the next number are those that settled
pub settled-at : (rows new : List Row) (number after at : ℕ) → settled (numbered rows number) at ≡ numbered new after → settled (contents_of rows at number) at ≡ contents_of new at after
settled-at rows new number after at is = settled-last (numbered rows number) at at ∙ ap (λ (c : Contents). let k : Contents = record c { last = at } in k) is

pub kept-after : (contents : Contents) (rows new : List Row) (last at next drawn : ℕ) (deed : Deed) (capacity after : ℕ) → contents_of rows last next ≡ contents → may_apply contents (change_of at deed) ≡ true → IsKept rows last next capacity
    → settled (numbered (rows_after at next deed rows) (next + drawn_by deed rows)) at ≡ numbered new (next + drawn) → capacity ≤ after → IsKept new at (next + drawn) after
kept-after contents rows new last at next drawn deed capacity after same may kept is room_ =
    let here : may_apply (contents_of rows last next) (change_of at deed) ≡ true = ap (λ (c : Contents). may_apply c (change_of at deed)) same ∙ may in
    let lawful = may-is (contents_of rows last next) at deed here in
    let made : Contents = numbered (rows_after at next deed rows) (next + drawn_by deed rows) in
    let ids : map (λ row. row.id) new ≡ map (λ row. row.id) rows = ap (λ (c : Contents). map (λ row. row.id) c.rows) (sym is) ∙ (settled-ids made at ∙ ids-after at next deed rows) in
    let len : length new ≡ length rows = ap (λ (c : Contents). length c.rows) (sym is) ∙ (settled-length made at ∙ length-after at next deed rows) in
    let more = made-after (contents_of rows last next) at next deed lawful.be in
    let sum = settled-made made at (let h = kept.drawn in omega arith) in
    let runs = ap (λ (c : Contents). runs_made c.rows) is in
    let number = ap (λ (c : Contents). c.next) is in
    let P : ℕ → Type 0 = λ n. room_for n ≤ after in
    let room : room_for (length rows) ≤ after = (let h = kept.room in omega arith) in
    record {
      told = lawful.told;
      few = (let h = kept.few in omega arith);
      own = subst (IsDistinct bytes_eq) (sym ids) kept.own;
      none = ap has_ready (sym is) ∙ settled-none made at;
      fit = ap (λ (c : Contents). list_all fits c.rows) (sym is) ∙ settled-fits made at (fits-after at next deed rows kept.fit);
      drawn = omega arith;
      room = subst P (sym len) room;
    }

pub changed-applied : (contents : Contents) (rows new : List Row) (last at next drawn : ℕ) (deed : Deed) → contents_of rows last next ≡ contents → row_of deed ≡ None
    → settled (numbered (rows_after at next deed rows) (next + drawn_by deed rows)) at ≡ numbered new (next + drawn) → contents_of new at (next + drawn) ≡ applied contents (change_of at deed)
changed-applied contents rows new last at next drawn deed same none is =
    sym (settled-at (rows_after at next deed rows) new (next + drawn_by deed rows) (next + drawn) at is)
    ∙ (rows-applied (contents_of rows last next) at deed none ∙ ap (λ (c : Contents). applied c (change_of at deed)) same)

-- a change in code, and then the tasks settle
pub change-made-is : (rows mid new : List Row) (number at drawn more : ℕ) (deed : Deed) → mid ≡ rows_after at number deed rows → drawn ≡ drawn_by deed rows → new ≡ started (is_ready mid) (number + drawn) at mid → more ≡ count_by (is_ready mid) mid
    → settled (numbered (rows_after at number deed rows) (number + drawn_by deed rows)) at ≡ numbered new (number + (drawn + more))
change-made-is rows mid new number at drawn more deed made draws_ is count =
    let sum : number + drawn + more ≡ number + (drawn + more) = omega arith in
    ap (λ n. settled (numbered (rows_after at number deed rows) (number + n)) at) (sym draws_)
    ∙ (ap (λ (rs : List Row). settled (numbered rs (number + drawn)) at) (sym made)
    ∙ (settled-numbered mid new (number + drawn) at more is count ∙ ap (numbered new) sum))

pub drawn-few : (deed : Deed) (rows : List Row) → drawn_by deed rows ≤ 1
drawn-few (Schedule id) rows = omega arith
drawn-few (Rerun id) rows = omega arith
drawn-few (Resolve r) rows = draws-few (reason_of r.reason) (row_with r.id rows)
drawn-few (Create row) rows = omega arith
drawn-few (Cancel id) rows = omega arith
drawn-few (TakesRuns claim) rows = omega arith
drawn-few (Reclaim r) rows = omega arith
