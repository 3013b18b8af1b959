use Rattle.std.proofs.Common.{ap, sym, ◌∙◌}
use Rattle.task_index.specs.Due.{all_due_moments}
use Rattle.task_index.proofs.LeastLemmas.{first-within, within}
use Rattle.task_index.proofs.walks.first_due.Goals as goal

pub returns-in-Some : goal.returns-in-Some
returns-in-Some c = c.within.ensures ∙ (ap (within c.args.moment) c.in-Some.ensures ∙ sym (first-within c.args.moment (all_due_moments c.args.rows.now)))

pub returns-in-None : goal.returns-in-None
returns-in-None c = ap (within c.args.moment) c.in-None.ensures ∙ sym (first-within c.args.moment (all_due_moments c.args.rows.now))
