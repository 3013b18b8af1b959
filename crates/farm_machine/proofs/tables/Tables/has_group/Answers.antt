use Rattle.std.proofs.Common.{is_some, ap, ◌∙◌}
use Rattle.std.specs.List.{list_any}
use Rattle.task_index.specs.Contents.{Contents}
use Rattle.task_index.specs.Lists.{is_listed}
use Rattle.task_index.specs.declared.lists.TaskList.TheVariants.{Group}
use Rattle.farm_machine.proofs.PageLemmas.{some-copied, has-scheduler}
use Rattle.farm_machine.proofs.tables.Tables.has_group.Goals as goal

pub returns : goal.returns
returns c =
    c.is_some.ensures ∙ some-copied c.kept_scheduler.result ∙ ap is_some c.kept_scheduler.ensures ∙ has-scheduler c.args.group c.self.inside.tasks.rows
    ∙ ap (λ (k : Contents). list_any (is_listed (Group c.args.group)) k.rows) c.self.view_is
