use Rattle.std.proofs.Common.{◌≡◌, ◌<◌, ◌++◌, ◌∷◌, [], length, rules, arith, vec_len}
use Rattle.dep_graph.proofs.EdgeLemmas.{pushed-edges, other-spares}
use Rattle.dep_graph.proofs.edges.add_edge.Goals as goal

pub returns-clause-edges : goal.returns-clause-edges
returns-clause-edges c =
    let held = c.index_mut-held.result.now in
    let items = c.args.edges.now.items in
    let len : vec_len c.args.edges.now ≡ length items = search rules in
    let within : c.args.place < length items = (let below = c.requires.within in omega arith) in
    let pushed : c.push.new.self.items ≡ held.rows.items ++ c.args.row ∷ [] = search rules in
    pushed-edges items c.args.place c.args.row held (record { rows = c.push.new.self }) within c.index_mut-held.ensures.value pushed

pub returns-clause-others : goal.returns-clause-others
returns-clause-others c k other = other-spares c.args.edges.now.items c.args.place k (record { rows = c.push.new.self }) other
