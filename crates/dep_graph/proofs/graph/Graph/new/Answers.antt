use Rattle.std.proofs.Common.{◌≡◌, Some, None, vec_capacity}
use Rattle.dep_graph.proofs.EdgeLemmas.{kept-none}
use Rattle.dep_graph.proofs.MoveLemmas.{counted-none}
use Rattle.dep_graph.proofs.graph.Graph.new.Goals as goal

pub invariant_of-result : goal.invariant_of-result
invariant_of-result c = (
  kept-none c.new.result.tasks c.new-2.result.items c.new.result.capacity (vec_capacity c.new-2.result) c.new.ensures c.new-2.ensures.items,
  counted-none c.new.result.tasks c.new-3.result.lacking.items c.new-3.result.ready c.new.ensures c.new-3.ensures.lacking c.new-3.ensures.ready,
  λ x is. absurd (let e : None ≡ Some x = is in cc),
)
