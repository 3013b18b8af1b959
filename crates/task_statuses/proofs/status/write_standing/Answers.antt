use Rattle.std.proofs.Common.{codes, ap, ◌∙◌}
use Rattle.std.proofs.lemmas.Result.{on_ok_weaker}
use Rattle.run_states.specs.Rows.{row_state}
use Rattle.task_types.specs.declared.task_def.TaskDef.{TaskDef}
use Rattle.task_statuses.specs.Statuses.{task_state_name}
use Rattle.task_statuses.proofs.WritingLemmas.{two_texts}
use Rattle.task_statuses.proofs.status.write_standing.Goals as goal

pub returns-clause-ok : goal.returns-clause-ok
returns-clause-ok c =
    let row = c.args.row.now in
    on_ok_weaker c.text_member-2.result
    (λ e. two_texts c.args.out.now.tokens c.text_member.new.out.tokens c.text_member-2.new.out.tokens (codes "schedulerId") (codes "state") c.as_str.result.now c.task_state_name.result.now row.definition.scheduler_id (task_state_name (row_state row))
    c.in_ok-text_member.ensures.ok e (c.as_str.ensures.value ∙ ap (λ (d : TaskDef). d.scheduler_id) c.definition.ensures) (c.task_state_name.ensures ∙ ap task_state_name c.state.ensures))
    c.text_member-2.ensures.ok
