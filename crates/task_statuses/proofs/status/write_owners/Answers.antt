use Rattle.std.proofs.Common.{codes}
use Rattle.std.proofs.lemmas.Result.{on_ok_weaker}
use Rattle.task_statuses.proofs.WritingLemmas.{two_texts}
use Rattle.task_statuses.proofs.status.write_owners.Goals as goal

pub returns-clause-ok : goal.returns-clause-ok
returns-clause-ok c =
    let def = c.args.definition.now in
    on_ok_weaker c.text_member-2.result
    (λ e. two_texts c.args.out.now.tokens c.text_member.new.out.tokens c.text_member-2.new.out.tokens (codes "projectId") (codes "provisionerId") c.as_str.result.now c.as_str-2.result.now def.project_id def.queue.provisioner_id
    c.in_ok-text_member.ensures.ok e c.as_str.ensures.value c.as_str-2.ensures.value)
    c.text_member-2.ensures.ok
