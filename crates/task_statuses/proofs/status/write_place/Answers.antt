use Rattle.std.proofs.Common.{codes, ◌∙◌}
use Rattle.std.proofs.lemmas.Result.{on_ok_weaker}
use Rattle.task_types.specs.Forms.{queue_name}
use Rattle.task_statuses.proofs.WritingLemmas.{two_texts}
use Rattle.task_statuses.proofs.status.write_place.Goals as goal

pub returns-clause-ok : goal.returns-clause-ok
returns-clause-ok c =
    let queue = c.args.queue.now in
    on_ok_weaker c.text_member-2.result
    (λ e. two_texts c.args.out.now.tokens c.text_member.new.out.tokens c.text_member-2.new.out.tokens (codes "taskQueueId") (codes "workerType") c.as_str.result.now c.as_str-2.result.now (queue_name queue.provisioner_id queue.worker_type) queue.worker_type
    c.in_ok-text_member.ensures.ok e (c.as_str.ensures ∙ c.in_ok-name.ensures) c.as_str-2.ensures.value)
    c.text_member-2.ensures.ok
