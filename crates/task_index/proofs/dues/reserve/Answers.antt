use Rattle.std.proofs.Common.{Option, subst}
use Rattle.task_index.specs.declared.dues.Dues.{Dues}
use Rattle.task_index.specs.Dated.{MayBeDue}
use Rattle.task_index.proofs.dues.reserve.Goals as goal

pub returns-in-Some : goal.returns-in-Some
returns-in-Some c = λ rows held. c.reserve.ensures rows (subst (λ (dues : Option Dues). MayBeDue dues rows) c.in-Some.is held)
