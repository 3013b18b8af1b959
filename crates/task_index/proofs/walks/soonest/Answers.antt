use Rattle.task_index.proofs.SoonestLemmas.{soonest-step}
use Rattle.task_index.proofs.walks.soonest.Goals as goal

pub loop-row-preserved : goal.loop-row-preserved
loop-row-preserved c =
    soonest-step c.args.rows.now c.loop-row.row-index c.row-item.result c.loop-row.soonest c.soonest_with-soonest.result c.loop-row-test.true c.loop-row.invariant c.soonest_with-soonest.ensures c.row-item.is
