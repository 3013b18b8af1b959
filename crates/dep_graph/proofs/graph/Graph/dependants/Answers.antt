use Rattle.std.proofs.Common.{◌∙◌, ap, arith, rules}
use Rattle.dep_graph.specs.Nodes.{TaskGraph, rows_of, dependants_of}
use Rattle.dep_graph.proofs.EdgeLemmas.{dependants-at, edge-within}
use Rattle.dep_graph.proofs.GraphLemmas.{edges-long}
use Rattle.dep_graph.proofs.graph.Graph.dependants.Goals as goal

pub index-requires : goal.index-requires
index-requires c =
    let g = c.self.inside in
    let below = edge-within (rows_of g.tasks.tasks) c.args.row c.in-Some.place g.edges.items (edges-long g.tasks.tasks g.edges.items g.tasks.capacity _ g.room c.self.invariant.0) c.in-Some.ensures.some in
    search (rules, arith)

pub returns-in-Some : goal.returns-in-Some
returns-in-Some c =
    let g = c.self.inside in
    let told = dependants-at g.tasks.tasks g.edges.items c.args.row c.in-Some.place c.index.result.now c.self.invariant.0.edges_are c.in-Some.ensures.some c.index.ensures in
    c.deref.ensures.value ∙ (told ∙ ap (λ (g : TaskGraph). dependants_of g.tasks c.args.row) c.self.view_is)
