use Rattle.std.proofs.Common.{◌∙◌}
use Rattle.task_index.proofs.QueueLemmas.{count-is}
use Rattle.task_index.proofs.queues.Queues.pending.Goals as goal

pub returns : goal.returns
returns c = λ rows all. c.count.ensures ∙ count-is c.args.queue.now c.args.self.now.pending rows all.held
