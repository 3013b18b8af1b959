use Rattle.std.proofs.Common.{ap, ◌∙◌}
use Rattle.task_index.specs.Dated.{earlier_of}
use Rattle.task_index.proofs.FirstLemmas.{first-told}
use Rattle.task_index.proofs.dues.Dues.first.Goals as goal

pub returns : goal.returns
returns c =
    λ rows held. c.earlier_of.ensures
    ∙ (ap (λ o. earlier_of o c.first_due-2.result) c.first_due.ensures
    ∙ (ap (earlier_of _) c.first_due-2.ensures ∙ first-told c.args.self.now rows c.args.moment held))
