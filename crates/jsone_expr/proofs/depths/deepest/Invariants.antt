use Rattle.std.proofs.Common.{◌≡◌, [], drop, reverse}
use Rattle.jsone_expr.specs.Depths.{after_nodes}
use Rattle.jsone_expr.proofs.depths.deepest.Given as goal

-- what is left sinks to what all nodes sink to
abbrev pub invariant-loop-node : goal.invariant-loop-node
invariant-loop-node l = after_nodes (drop l.node-index l.nodes) (reverse l.depths.items) ≡ after_nodes l.nodes []
