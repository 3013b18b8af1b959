use Rattle.farm_text.specs.Doc.{document}
use Rattle.task_defs.specs.Documents.{seen}
use Rattle.task_defs.proofs.QueueLemmas.{both_agree, they_disagree, worker_ill}
use Rattle.task_defs.proofs.queue.both_parts.Goals as goal

pub returns-in-None-identifier : goal.returns-in-None-identifier
returns-in-None-identifier c =
    worker_ill (document c.args.provisioner.now) (document c.args.worker.now) c.in-Some.first.now (seen c.args.name) c.in-Some-name_parts.named _ c.in-Some.ensures.0 c.in-Some.ensures.1
    c.in-None-identifier.ensures c.in-Some-name_parts.ensures c.at-in-None-identifier.ensures

pub returns-then-not-agrees : goal.returns-then-not-agrees
returns-then-not-agrees c =
    they_disagree (document c.args.provisioner.now) (document c.args.worker.now) c.in-Some.first.now c.in-Some-identifier.second.now (seen c.args.name) c.in-Some-name_parts.named _
    c.in-Some.ensures.0 c.in-Some.ensures.1 c.in-Some-identifier.ensures.0 c.in-Some-identifier.ensures.1 c.in-Some-name_parts.ensures c.if-not-agrees.ensures c.at-then-not-agrees.ensures

pub returns : goal.returns
returns c =
    both_agree (document c.args.provisioner.now) (document c.args.worker.now) c.in-Some.first.now c.in-Some-identifier.second.now (seen c.args.name) c.in-Some-name_parts.named _
    c.in-Some.ensures.0 c.in-Some.ensures.1 c.in-Some-identifier.ensures.0 c.in-Some-identifier.ensures.1 c.in-Some-name_parts.ensures c.if-not-agrees.ensures c.in_ok-queue_of.ensures
