use Rattle.std.proofs.Common.{ap}
use Rattle.dep_graph.specs.Trees.{leaves_of}
use Rattle.dep_graph.proofs.TreeLemmas.{tree-none}
use Rattle.dep_graph.proofs.least.Least.new.Goals as goal

pub invariant_of-result : goal.invariant_of-result
invariant_of-result c = tree-none c.new.result.items c.new.ensures.items

pub returns : goal.returns
returns c = ap leaves_of c.new.ensures.items
