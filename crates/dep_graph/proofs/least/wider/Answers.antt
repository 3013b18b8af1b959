use Rattle.std.proofs.Common.{arith, rules}
use Rattle.dep_graph.proofs.TreeLemmas.{widened-first, widened-more, widened-kept}
use Rattle.dep_graph.proofs.least.wider.Goals as goal

pub loop-place-init : goal.loop-place-init
loop-place-init c = widened-first c.args.nodes.now _ _ c.in_ok-tree.tree.items c.in_ok-tree.ensures

pub loop-place-preserved : goal.loop-place-preserved
loop-place-preserved c =
    widened-more c.args.nodes.now _ _ c.loop-place.place c.loop-place.tree.items c.put.new.nodes.items _ c.loop-place.invariant (omega arith) (search rules) c.put.ensures.tree c.put.ensures.long c.put.ensures.leaves

pub returns-clause-tree : goal.returns-clause-tree
returns-clause-tree c = c.loop-place.invariant.tree

pub returns-clause-wide : goal.returns-clause-wide
returns-clause-wide c = let long = c.loop-place.invariant.long in (omega arith, omega arith)

pub returns-clause-kept : goal.returns-clause-kept
returns-clause-kept c = widened-kept c.args.nodes.now _ _ c.loop-place.place c.loop-place.tree.items c.loop-place.invariant c.requires (search rules) (search (rules, arith))
