use Rattle.std.proofs.Common.{◌≡◌, vec_len, vec_capacity}
use Rattle.dep_graph.specs.Nodes.{rows_of}
use Rattle.dep_graph.specs.Kept.{edges_of}
use Rattle.dep_graph.proofs.EdgeLemmas.{AddsSo}
use Rattle.dep_graph.proofs.edges.add_edges.Given as goal

abbrev pub invariant-loop-dependency : goal.invariant-loop-dependency
invariant-loop-dependency l =
    AddsSo (rows_of l.tasks.tasks) l.dependencies l.row l.dependency-index (edges_of l.fn.edges.items) l.edges.items
    × (vec_len l.edges ≡ vec_len l.fn.edges) × (vec_capacity l.edges ≡ vec_capacity l.fn.edges)
