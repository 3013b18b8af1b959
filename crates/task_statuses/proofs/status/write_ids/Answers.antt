use Rattle.std.proofs.Common.{codes, ap}
use Rattle.std.proofs.lemmas.Result.{on_ok_weaker}
use Rattle.farm_text.specs.Slug.{slug_text}
use Rattle.task_types.specs.declared.task_def.TaskDef.{TaskDef}
use Rattle.task_statuses.proofs.WritingLemmas.{two_texts}
use Rattle.task_statuses.proofs.status.write_ids.Goals as goal

pub returns-clause-ok : goal.returns-clause-ok
returns-clause-ok c =
    let row = c.args.row.now in
    on_ok_weaker c.id_member-2.result
    (λ e. two_texts c.args.out.now.tokens c.id_member.new.out.tokens c.id_member-2.new.out.tokens (codes "taskGroupId") (codes "taskId") (slug_text c.definition.result.now.task_group_id) (slug_text c.id.result) (slug_text row.definition.task_group_id) (slug_text row.id)
    c.in_ok-id_member.ensures.ok e (ap (λ (d : TaskDef). slug_text d.task_group_id) c.definition.ensures) (ap slug_text c.id.ensures))
    c.id_member-2.ensures.ok
