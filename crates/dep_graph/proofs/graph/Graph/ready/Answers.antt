use Rattle.std.proofs.Common.{◌∙◌, ap}
use Rattle.dep_graph.specs.Nodes.{TaskGraph}
use Rattle.dep_graph.specs.Ready.{ready_row}
use Rattle.dep_graph.proofs.ReadyLemmas.{least-ready}
use Rattle.dep_graph.proofs.graph.Graph.ready.Goals as goal

pub returns : goal.returns
returns c =
    let g = c.self.inside in
    least-ready g.tasks.tasks g.waits.lacking.items g.waits.ready c.least.result c.self.invariant.1 c.least.ensures.some c.least.ensures.least ∙ ap (λ (g : TaskGraph). ready_row g.tasks) c.self.view_is
