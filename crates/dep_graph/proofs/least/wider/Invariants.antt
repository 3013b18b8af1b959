use Rattle.dep_graph.proofs.TreeLemmas.{IsWidened}
use Rattle.dep_graph.proofs.least.wider.Given as goal

abbrev pub invariant-loop-place : goal.invariant-loop-place
invariant-loop-place l = IsWidened l.nodes l.half l.wide l.place l.tree.items
