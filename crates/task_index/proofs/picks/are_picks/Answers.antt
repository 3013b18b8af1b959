use Rattle.std.proofs.Common.{sym, ◌∙◌}
use Rattle.task_index.proofs.PickLemmas.{are-init, are-step}
use Rattle.task_index.proofs.picks.are_picks.Goals as goal

pub loop-number-init : goal.loop-number-init
loop-number-init c = are-init c.args.queue.now c.args.names.now c.args.rows.now

pub loop-number-preserved : goal.loop-number-preserved
loop-number-preserved c =
    are-step c.args.queue.now c.args.names.now c.loop-number.number c.index-names-number.result c.args.rows.now c.loop-number-test.true c.index-names-number.is
    (sym c.is_pick.ensures ∙ c.if-not-is_pick.false) c.loop-number.invariant
