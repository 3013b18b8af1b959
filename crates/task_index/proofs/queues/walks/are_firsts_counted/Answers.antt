use Rattle.std.proofs.Common.{sym, ◌∙◌}
use Rattle.task_index.proofs.QueuePickLemmas.{are-first, are-next, are-no}
use Rattle.task_index.proofs.queues.walks.are_firsts_counted.Goals as goal

pub loop-name-init : goal.loop-name-init
loop-name-init g c = are-first c.args.queue.now c.requires.slash c.args.names.now c.args.rows.now c.requires.own c.firsts-walk.result c.args.pending.now c.requires.all c.firsts-walk.ensures

pub loop-name-preserved : goal.loop-name-preserved
loop-name-preserved g c =
    are-next c.args.queue.now c.requires.slash c.args.names.now c.args.rows.now c.requires.own c.loop-name.name-index c.name-item.result c.loop-name.walk c.loop-name-test.true c.name-item.is c.loop-name.invariant
    c.gives.new.walk (sym c.gives.ensures.named ∙ c.if-not-gives.false) c.gives.ensures.left

pub returns-then-not-gives : goal.returns-then-not-gives
returns-then-not-gives g c =
    are-no c.args.queue.now c.requires.slash c.args.names.now c.args.rows.now c.requires.own c.loop-name.name-index c.name-item.result c.loop-name.walk c.loop-name-test.true c.name-item.is c.loop-name.invariant
    (sym c.gives.ensures.named ∙ c.if-not-gives.true)
