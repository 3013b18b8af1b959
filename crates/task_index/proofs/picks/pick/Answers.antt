use Rattle.std.specs.Prelude.{option_copied}
use Rattle.task_index.proofs.PickLemmas.{pick-step}
use Rattle.task_index.proofs.picks.pick.Goals as goal

pub loop-row-preserved : goal.loop-row-preserved
loop-row-preserved c =
    pick-step c.args.queue.now c.args.taken.now c.args.rows.now c.loop-row.row-index c.row-item.result (option_copied c.loop-row.best) (option_copied c.pick_with-best.result)
    c.loop-row-test.true c.row-item.is c.loop-row.invariant c.pick_with-best.ensures
