use Rattle.std.proofs.Common.{◌≡◌, drop}
use Rattle.dep_graph.specs.Nodes.{all_distinct}
use Rattle.dep_graph.proofs.tasks.are_distinct.Given as goal

abbrev pub invariant-loop-place : goal.invariant-loop-place
invariant-loop-place l = all_distinct l.rows ≡ all_distinct (drop l.place l.rows)
