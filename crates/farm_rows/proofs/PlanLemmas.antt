-- A change is planned.
use Rattle.std.proofs.Common.{◌≡◌, ℕ, Bool, true, false, cond, List, [], ◌∷◌, ◌++◌, Option, None, refl, ap, sym, ◌∙◌, subst}
use Rattle.std.specs.Option.{option_to_list}
use Rattle.run_states.specs.Rows.{Row, new_row, scheduled}
use Rattle.task_types.specs.declared.change.Creation.{Creation}
use Rattle.task_types.specs.declared.change.Kind.TheVariants as kinds
use Rattle.farm_rows.specs.declared.plan.Deed.{Deed}
use Rattle.farm_rows.specs.declared.plan.Deed.TheVariants.{Create, Schedule, Rerun, Cancel, Claim as TakesRuns, Reclaim, Resolve}
use Rattle.task_index.specs.Contents.{Contents, HaveOwnIds}
use Rattle.task_index.specs.Changes.{creating, may_apply}
use Rattle.task_index.specs.Ready.{is_ready, has_ready, settled_row}
use Rattle.farm_rows.specs.Deeds.{kind_of, change_of, row_of, shown_of, rows_after, planned_of}
use Rattle.task_index.specs.Plans.{Planned, Room, names_of, rows_with, named_rows, FindsRoom, IsPlanOn}
use Rattle.farm_rows.proofs.BusyLemmas.{AreBusy, settled-shown, deed-busy}
use Rattle.farm_rows.proofs.ChangeLemmas.{may-is, unsettled, rows-applied}
use Rattle.task_index.proofs.IdLemmas.{created-stands}
use Rattle.farm_rows.proofs.ShownLemmas.{deed-shown}

-- ---- a change of tasks that stand

shown-list : (deed : Deed) (rows : List Row) → row_of deed ≡ None → shown_of deed rows ≡ rows
shown-list (Create row) rows none = cc
shown-list (Schedule id) rows none = refl
shown-list (Rerun id) rows none = refl
shown-list (Cancel id) rows none = refl
shown-list (TakesRuns claim) rows none = refl
shown-list (Reclaim r) rows none = refl
shown-list (Resolve r) rows none = refl

finds-room : (deed : Deed) (rows : List Row) (room : Room) → row_of deed ≡ None → FindsRoom rows room (kind_of deed)
finds-room (Create row) rows room none = cc
finds-room (Schedule id) rows room none = tt
finds-room (Rerun id) rows room none = tt
finds-room (Cancel id) rows room none = tt
finds-room (TakesRuns claim) rows room none = tt
finds-room (Reclaim r) rows room none = tt
finds-room (Resolve r) rows room none = tt

-- a change of the named tasks alone is planned
pub IsPlanOn-shown : (contents : Contents) (at : ℕ) (room : Room) (deed : Deed) (rows : List Row) → row_of deed ≡ None → HaveOwnIds contents.rows → may_apply contents (change_of at deed) ≡ true → rows ≡ rows_after at contents.next deed (named_rows (kind_of deed) contents.rows) → IsPlanOn contents (planned_of at deed rows room)
IsPlanOn-shown contents at room deed rows none own lawful made =
    let may = (may-is contents at deed lawful).be in
    let names : List (List ℕ) = names_of (kind_of deed) in
    let busy : AreBusy names (unsettled contents at deed).rows = deed-busy contents at contents.next deed none own may in
    record {
      lawful = lawful;
      shows =
          shown-list deed rows none
          ∙ (made
          ∙ (deed-shown contents at contents.next deed may
          ∙ (settled-shown (unsettled contents at deed) at names busy ∙ ap (λ (c : Contents). rows_with names c.rows) (rows-applied contents at deed none))));
      room = finds-room deed contents.rows room none;
    }

-- ---- a creation

-- a creation is planned with the task that it makes
pub IsPlanOn-created : (contents : Contents) (at : ℕ) (room : Room) (creation : Creation) (row : Row) → has_ready contents ≡ false → may_apply contents (creating at creation) ≡ true → row ≡ settled_row contents at (new_row creation.id creation.definition)
    → FindsRoom contents.rows room (kinds.Create creation) → IsPlanOn contents (planned_of at (Create row) [] room)
IsPlanOn-created contents at room creation row none lawful is enough =
    subst (λ (r : Row). IsPlanOn contents (planned_of at (Create r) [] room)) (sym is) (named_so (is_ready contents.rows new) shown)
  where
    new : Row
    new = new_row creation.id creation.definition

    made : Row → Planned
    made r = record { change = creating at creation; rows = r ∷ []; room = room }

    shown : IsPlanOn contents (made (settled_row contents at new))
    shown = record {
      lawful = lawful;
      shows = sym (ap (λ (o : Option Row). option_to_list o ++ []) (created-stands contents at creation none lawful));
      room = enough;
    }

    named_so : (b : Bool) → IsPlanOn contents (made (cond b (scheduled contents.next at new) new)) → IsPlanOn contents (planned_of at (Create (cond b (scheduled contents.next at new) new)) [] room)
    named_so true plan = plan
    named_so false plan = plan
