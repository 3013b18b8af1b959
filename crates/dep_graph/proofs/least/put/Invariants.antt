use Rattle.dep_graph.proofs.TreeLemmas.{IsClimbing}
use Rattle.dep_graph.proofs.least.put.Given as goal

abbrev pub invariant-loop-at : goal.invariant-loop-at
invariant-loop-at l = IsClimbing l.fn.nodes.items l.nodes.items l.at l.leaf l.fn.row

abbrev pub decreases-loop-at : goal.decreases-loop-at
decreases-loop-at l = l.at
