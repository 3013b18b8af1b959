use Rattle.std.proofs.Common.{◌≡◌, None, sym, codes}
use Rattle.farm_text.specs.Doc.{document}
use Rattle.farm_text.specs.Document.{get}
use Rattle.task_defs.proofs.KeyLemmas.{has_worker, has_queue, no_worker, none_at}
use Rattle.task_defs.proofs.QueueLemmas.{queue_by}
use Rattle.task_defs.proofs.queue.queue.Goals as goal

pub value-worker-requires : goal.value-worker-requires
value-worker-requires c = has_worker (document c.args.doc.now) c.requires (sym c.if-has.ensures)

pub value-requires : goal.value-requires
value-requires c = has_queue (document c.args.doc.now) c.requires (sym c.if-has.ensures)

pub returns-then-has : goal.returns-then-has
returns-then-has c =
    queue_by (document c.args.doc.now) _ _ _ c.both_parts.result c.value-provisioner.ensures (sym c.get.ensures) c.value-worker.ensures c.both_parts.ensures

pub returns-else-has : goal.returns-else-has
returns-else-has c =
    let d = document c.args.doc.now in
    let p : get (codes "provisionerId") d ≡ None = none_at (get (codes "provisionerId") d) (sym c.if-has.ensures) in
    let w : get (codes "workerType") d ≡ None = none_at (get (codes "workerType") d) (no_worker d c.requires (sym c.if-has.ensures)) in
    queue_by d _ _ _ c.whole_queue.result p c.value.ensures w c.whole_queue.ensures
