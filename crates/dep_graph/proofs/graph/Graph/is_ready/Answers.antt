use Rattle.std.proofs.Common.{◌∙◌, ap}
use Rattle.dep_graph.specs.Nodes.{TaskGraph}
use Rattle.dep_graph.specs.Ready.{row_is_ready}
use Rattle.dep_graph.proofs.graph.Graph.is_ready.Goals as goal

pub row_is_ready-requires : goal.row_is_ready-requires
row_is_ready-requires c = c.self.invariant.0.own_rows

pub returns : goal.returns
returns c = c.row_is_ready.ensures ∙ ap (λ (g : TaskGraph). row_is_ready g.tasks c.args.row) c.self.view_is
