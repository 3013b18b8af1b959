use Rattle.task_index.proofs.QueueLemmas.{under-is}
use Rattle.task_index.proofs.QueueNameLemmas.{one-slash}
use Rattle.farm_rows.proofs.laws.one_name_is_one_queue.Goals as goal

pub returns : goal.returns
returns c =
    let queue = c.args.queue.now in
    under-is queue (one-slash queue.provisioner_id queue.worker_type c.as_str.ensures.form c.as_str-2.ensures.form)
