use Rattle.std.proofs.Common.{◌∙◌}
use Rattle.task_groups.proofs.PageLemmas.{get-last}
use Rattle.task_groups.proofs.page.last_of.Goals as goal

pub returns : goal.returns
returns c = c.copied.ensures ∙ c.last.ensures.value ∙ get-last c.args.rows.now
