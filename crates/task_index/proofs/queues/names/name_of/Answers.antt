use Rattle.task_index.proofs.QueueNameLemmas.{one-slash}
use Rattle.task_index.proofs.queues.names.name_of.Goals as goal

pub returns-in_err-joined-clause-slash : goal.returns-in_err-joined-clause-slash
returns-in_err-joined-clause-slash c =
    let queue = c.args.queue.now in
    one-slash queue.provisioner_id queue.worker_type c.as_str-provisioner.ensures.form c.as_str-worker.ensures.form

pub returns-clause-slash : goal.returns-clause-slash
returns-clause-slash c =
    let queue = c.args.queue.now in
    one-slash queue.provisioner_id queue.worker_type c.as_str-provisioner.ensures.form c.as_str-worker.ensures.form
