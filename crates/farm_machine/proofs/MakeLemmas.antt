-- What is answered where a change is planned, and where the farm is full for it.
use Rattle.std.proofs.Common.{◌≡◌, ◌&&◌, ℕ, min, nat_le, true, false, length, Some, None, Result, Ok, Err, IfOk, List, refl, ap, ◌∙◌, subst}
use Rattle.farm_text.specs.Document.{Document, document_text}
use Rattle.task_types.specs.declared.change.Change.{Change}
use Rattle.task_types.specs.declared.change.Kind.{Kind}
use Rattle.run_states.specs.Rows.{Row}
use Rattle.task_index.specs.Changes.{applied}
use Rattle.task_index.specs.Contents.{Contents}
use Rattle.task_index.specs.Plans as tasks
use Rattle.farm_machine.specs.declared.judged.Judged.{Judged}
use Rattle.farm_asks.specs.declared.works.Telling.{Telling}
use Rattle.farm_machine.specs.Case.{Setting, changing}
use Rattle.farm_machine.specs.Order.{full, makes_task, done}
use Rattle.farm_machine.specs.Planned.{judgement_of}
use Rattle.farm_machine.specs.Refused.{IsPlannedSo, IsMade}
use Rattle.farm_asks.specs.Replies.{ok, farm_full}
use Rattle.farm_asks.specs.Tellings.{told_by}
use Rattle.farm_asks.specs.Works.{told_of, at_moment}
use Rattle.farm_machine.proofs.OrderLemmas.{full-first, done-first, only-judged, only-kept}

-- the change makes a task, and the farm has as many as it takes
pub full-is : (at : Setting) (kind : Kind) → (makes_task kind && nat_le (min at.state.config.max_tasks 1_000_000) (length at.state.contents.rows)) ≡ true → full at.state (changing at.moment kind).change ≡ Some (farm_full (length at.state.contents.rows))
full-is at kind is = rw is refl

-- it takes one more, or none is made
pub free-is : (at : Setting) (kind : Kind) → (makes_task kind && nat_le (min at.state.config.max_tasks 1_000_000) (length at.state.contents.rows)) ≡ false → full at.state (changing at.moment kind).change ≡ None
free-is at kind is = rw is refl

-- the judgement where the farm is full
pub IsMade-full : (at : Setting) (kind : Kind) (judged : Judged) → (makes_task kind && nat_le (min at.state.config.max_tasks 1_000_000) (length at.state.contents.rows)) ≡ true → judged.answer ≡ farm_full (length at.state.contents.rows) → judged.change ≡ None → IsMade at kind judged
IsMade-full at kind judged is answer change =
    let a = farm_full (length at.state.contents.rows) in
    record {
      first = rw (only-judged judged a answer change) (full-first at (changing at.moment kind) a (full-is at kind is));
      kept = only-kept judged at.state.contents change;
    }

-- the same of a call that may run out of memory
pub IsMade-refused : {E : Type 0} (at : Setting) (kind : Kind) (count : ℕ) (result : Result Judged E) → count ≡ length at.state.contents.rows → (makes_task kind && nat_le (min at.state.config.max_tasks 1_000_000) (length at.state.contents.rows)) ≡ true
    → IfOk result (λ judged. judged.answer ≡ farm_full count) → IfOk result (λ judged. judged.change ≡ None) → IfOk result (IsMade at kind)
IsMade-refused at kind count (Ok judged) stand is answer change = IsMade-full at kind judged is (answer ∙ ap farm_full stand) change
IsMade-refused at kind count (Err e) stand is answer change = tt

-- what is planned is what is done
planned-done : (at : Setting) (kind : Kind) (judged : Judged) (plan : tasks.Planned) → plan.change ≡ at_moment at.moment kind → tasks.IsPlanOn at.state.contents plan → judged.answer ≡ ok (document_text (told_of kind plan.rows)) → judged.change ≡ Some plan → judgement_of judged ≡ done at (changing at.moment kind)
planned-done at kind judged plan is on answer change =
    let shown : plan.rows ≡ tasks.named_rows kind (applied at.state.contents (at_moment at.moment kind)).rows =
    subst (λ (c : Change). plan.rows ≡ tasks.named_rows c.kind (applied at.state.contents c).rows) is on.shows in
    rw (answer, change, is, shown) refl

-- the judgement where a change is planned
pub IsMade-planned : (at : Setting) (kind : Kind) (judged : Judged) (plan : tasks.Planned) → (makes_task kind && nat_le (min at.state.config.max_tasks 1_000_000) (length at.state.contents.rows)) ≡ false → plan.change ≡ at_moment at.moment kind → tasks.IsPlanOn at.state.contents plan → judged.answer ≡ ok (document_text (told_of kind plan.rows)) → judged.change ≡ Some plan → IsMade at kind judged
IsMade-planned at kind judged plan free is on answer change =
    record {
      first = done-first at (changing at.moment kind) (judgement_of judged) (free-is at kind free) (planned-done at kind judged plan is on answer change);
      kept = rw change on;
    }

-- the judgement of a call that plans the change, or runs out of memory
pub IsMade-so : {E : Type 0} (at : Setting) (kind : Kind) (result : Result Judged E) → (makes_task kind && nat_le (min at.state.config.max_tasks 1_000_000) (length at.state.contents.rows)) ≡ false → IfOk result (IsPlannedSo at.state.contents (at_moment at.moment kind)) → IfOk result (IsMade at kind)
IsMade-so at kind (Ok judged) free (plan, is, on, answer, change) = IsMade-planned at kind judged plan free is on answer change
IsMade-so at kind (Err e) free planned = tt

-- what is planned, and told of what it leaves, is planned so
pub planned-so : {E : Type 0} (contents : Contents) (change : Change) (telling : Telling) (plan : tasks.Planned) (result : Result Judged E) → plan.change ≡ change → tasks.IsPlanOn contents plan → ((rows : List Row) → told_by telling rows ≡ told_of change.kind rows)
    → IfOk result (λ judged. judged.answer ≡ ok (document_text (told_by telling plan.rows))) → IfOk result (λ judged. judged.change ≡ Some plan) → IfOk result (IsPlannedSo contents change)
planned-so contents change telling plan (Ok judged) is on tells answer planned = (plan, is, on, answer ∙ ap (λ (d : Document). ok (document_text d)) (tells plan.rows), planned)
planned-so contents change telling plan (Err e) is on tells answer planned = tt
