use Rattle.task_types.proofs.QueueNameLemmas.{cut_by}
use Rattle.task_defs.proofs.queue.cut.Goals as goal

pub returns : goal.returns
returns c = cut_by c.args.name.now c.split_once.result c.split_once.ensures.cases
