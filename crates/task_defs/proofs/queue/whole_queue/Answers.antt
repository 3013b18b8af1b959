use Rattle.farm_text.specs.Doc.{document}
use Rattle.task_defs.proofs.QueueLemmas.{whole_well}
use Rattle.task_defs.proofs.queue.whole_queue.Goals as goal

pub returns-in_ok-queue_of-in-Some : goal.returns-in_ok-queue_of-in-Some
returns-in_ok-queue_of-in-Some c =
    whole_well (document c.args.name.now) (c.in-Some.provisioner, c.in-Some.worker) _ c.in-Some.ensures.0 c.in-Some.ensures.1 c.in-Some.ensures.2 c.in_ok-queue_of-in-Some.ensures
