use Rattle.std.proofs.Common.{◌≡◌, ◌*◌, ◌+◌, ◌/◌, ◌<◌, length, ap, ◌∙◌, arith, rules, vec_len}
use Rattle.dep_graph.specs.Trees.{lesser, node_at}
use Rattle.dep_graph.proofs.TreeLemmas.{read-node, climb-first, climb-more, climb-inner, climb-end}
use Rattle.dep_graph.proofs.least.put.Goals as goal

pub loop-at-init : goal.loop-at-init
loop-at-init c = climb-first c.args.nodes.now.items c.args.leaf c.args.row c.requires.tree c.requires.leaf.0 c.requires.leaf.1 c.requires.leaf.2

pub index-requires : goal.index-requires
index-requires c =
    let inner = climb-inner c.args.nodes.now.items c.loop-at.nodes.items c.loop-at.at c.args.leaf c.args.row c.requires.tree c.loop-at.invariant c.loop-at-test.true in
    let len : vec_len c.loop-at.nodes ≡ length c.loop-at.nodes.items = search rules in
    omega (arith, inner, len)

pub index-requires-in-loop-at : goal.index-requires-in-loop-at
index-requires-in-loop-at c =
    let inner = climb-inner c.args.nodes.now.items c.loop-at.nodes.items c.loop-at.at c.args.leaf c.args.row c.requires.tree c.loop-at.invariant c.loop-at-test.true in
    let len : vec_len c.loop-at.nodes ≡ length c.loop-at.nodes.items = search rules in
    omega (arith, inner, len)

pub index_mut-requires-in-loop-at : goal.index_mut-requires-in-loop-at
index_mut-requires-in-loop-at c =
    let inner = climb-inner c.args.nodes.now.items c.loop-at.nodes.items c.loop-at.at c.args.leaf c.args.row c.requires.tree c.loop-at.invariant c.loop-at-test.true in
    let len : vec_len c.loop-at.nodes ≡ length c.loop-at.nodes.items = search rules in
    omega (arith, inner, len)

pub loop-at-preserved : goal.loop-at-preserved
loop-at-preserved c =
    let nodes = c.loop-at.nodes.items in
    let up = c.loop-at.at / 2 in
    let inner : 2 * up + 1 < length nodes = climb-inner c.args.nodes.now.items nodes c.loop-at.at c.args.leaf c.args.row c.requires.tree c.loop-at.invariant c.loop-at-test.true in
    let left = read-node nodes (2 * up) c.index.result.now (omega (arith, inner)) c.index.ensures in
    let right = read-node nodes (2 * up + 1) c.index-in-loop-at.result.now inner c.index-in-loop-at.ensures in
    let least : c.lesser.result ≡ lesser (node_at nodes (2 * up)) (node_at nodes (2 * up + 1)) = c.lesser.ensures ∙ (ap (λ x. lesser x c.index-in-loop-at.result.now) left ∙ ap (lesser (node_at nodes (2 * up))) right) in
    climb-more c.args.nodes.now.items c.loop-at.nodes.items c.loop-at.at c.args.leaf c.args.row c.lesser.result c.requires.tree c.loop-at.invariant c.loop-at-test.true least

pub returns-clause-tree : goal.returns-clause-tree
returns-clause-tree c = climb-end c.args.nodes.now.items c.loop-at.nodes.items c.loop-at.at c.args.leaf c.args.row c.requires.tree c.loop-at.invariant c.loop-at-test.false

pub returns-clause-long : goal.returns-clause-long
returns-clause-long c = c.loop-at.invariant.long

pub returns-clause-leaves : goal.returns-clause-leaves
returns-clause-leaves c = c.loop-at.invariant.leaves
