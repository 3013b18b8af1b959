-- What the code says of a call that nothing refuses; for private clauses.
use Rattle.std.specs.Prelude.{◌≡◌, ◌≤◌, true, false, None}
use Rattle.farm_text.specs.Document.{document_text}
use Rattle.farm_text.specs.declared.moment.TheConstants.{LAST_TOLD_MOMENT}
use Rattle.task_index.specs.Changes.{may_apply}
use Rattle.task_index.specs.Due.{is_due}
use Rattle.farm_machine.specs.declared.case.Done.{Done}
use Rattle.farm_machine.specs.declared.case.Done.TheVariants.{Reads, Changes}
use Rattle.farm_machine.specs.Case.{Setting, Deed, changing}
use Rattle.farm_machine.specs.Changes.{changed}
use Rattle.farm_machine.specs.Order.{full}
use Rattle.farm_asks.specs.Works.{at_moment}

-- the moment is one that a clock tells and not before the last, and nothing is due at it
pub record IsReady (at : Setting) : Type 0 where
  pub told : at.moment ≤ LAST_TOLD_MOMENT
  pub later : at.state.contents.last ≤ at.moment
  pub nothing_due : is_due at.state.contents at.moment ≡ false

-- this is what is done: it reads that body, whose text this is; or it makes a change, which may be made where the farm is not full
abbrev pub IsDeed : Setting → Deed → Done → Type 0
IsDeed at deed (Reads body) = (deed.change ≡ None) × (body ≡ document_text (deed.body (changed at.state.contents at.moment None)))
IsDeed at deed (Changes kind) =
    (deed ≡ changing at.moment kind) × (full at.state deed.change ≡ None → may_apply at.state.contents (at_moment at.moment kind) ≡ true)
