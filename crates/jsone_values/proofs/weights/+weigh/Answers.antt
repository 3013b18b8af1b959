use Rattle.jsone_values.proofs.WeightLemmas.{items_done, members_done}
use Rattle.jsone_values.proofs.weights.+weigh.Goals as goal

pub items_weight-returns : goal.items_weight-returns
items_weight-returns t c = items_done c.deref-item-items.result.now c.args.items.now.items c.loop-item.item-index c.loop-item.total c.deref-item-items.ensures.value c.loop-item-test.false c.loop-item.invariant.whole c.loop-item.invariant.small

pub members_weight-returns : goal.members_weight-returns
members_weight-returns t c = members_done c.loop-key.key-iterator c.args.members.now.entries c.loop-key.total c.in-None.ensures.steps.0 c.loop-key.invariant.whole c.loop-key.invariant.small
