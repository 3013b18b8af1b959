use Rattle.std.proofs.Common.{◌≡◌, ◌<◌, length, refl, ◌∙◌, ap, arith, rules, vec_len}
use Rattle.std.specs.Prelude.{slice_index}
use Rattle.dep_graph.specs.Nodes.{rows_of}
use Rattle.dep_graph.specs.Kept.{edges_of}
use Rattle.dep_graph.proofs.EdgeLemmas.{AddsSo, adds-first, adds-nowhere, adds-at, room-next, length-with, next-name, edge-within}
use Rattle.dep_graph.proofs.edges.add_edges.Goals as goal
use Rattle.dep_graph.proofs.edges.add_edges.Goals.{in-Some, in-None}

pub loop-dependency-init : goal.loop-dependency-init
loop-dependency-init c = (adds-first (rows_of c.args.tasks.now.tasks) c.args.dependencies.now c.args.row c.args.edges.now.items c.requires.len c.requires.rooms, refl, refl)

pub add_edge-requires-clause-within : goal.add_edge-requires-clause-within
add_edge-requires-clause-within c =
    let rows = rows_of c.args.tasks.now.tasks in
    let names = c.args.dependencies.now in
    let i = c.loop-dependency.dependency-index in
    let edges = c.loop-dependency.edges.items in
    let adds : AddsSo rows names c.args.row i (edges_of c.args.edges.now.items) edges = c.loop-dependency.invariant.0 in
    let long : length (edges_of edges) ≡ length rows = ap length adds.lists ∙ length-with rows c.args.row _ (edges_of c.args.edges.now.items) c.requires.len in
    let below = edge-within rows (slice_index names i) c.in-Some.place edges long c.in-Some.ensures.some in
    let len : vec_len c.loop-dependency.edges ≡ length edges = search rules in
    omega arith

pub add_edge-requires-clause-room : goal.add_edge-requires-clause-room
add_edge-requires-clause-room c =
    let names = c.args.dependencies.now in
    let i = c.loop-dependency.dependency-index in
    let within : i < length names = search (rules, arith) in
    room-next (rows_of c.args.tasks.now.tasks) names c.args.row i (slice_index names i) c.in-Some.place (edges_of c.args.edges.now.items) c.loop-dependency.edges.items within (next-name names i within) c.in-Some.ensures.some c.loop-dependency.invariant.0

pub loop-dependency-preserved : goal.loop-dependency-preserved
loop-dependency-preserved c =
    let rows = rows_of c.args.tasks.now.tasks in
    let names = c.args.dependencies.now in
    let i = c.loop-dependency.dependency-index in
    let old = edges_of c.args.edges.now.items in
    let edges = c.loop-dependency.edges.items in
    let within : i < length names = search (rules, arith) in
    let next = next-name names i within in
    elim c.match-place_of.branch [
      | in-Some w ↦
          rw w.edges-is (
            adds-at rows names c.args.row i (slice_index names i) w.in-Some.place old edges w.add_edge.new.edges.items c.requires.own c.requires.distinct c.requires.len within next w.in-Some.ensures.some w.add_edge.ensures.edges w.add_edge.ensures.others c.loop-dependency.invariant.0,
            w.add_edge.ensures.len ∙ c.loop-dependency.invariant.1,
            w.add_edge.ensures.capacity ∙ c.loop-dependency.invariant.2,
          )
      | in-None w ↦
          rw w.edges-is
          (adds-nowhere rows names c.args.row i (slice_index names i) old edges within next w.in-None.ensures.none c.loop-dependency.invariant.0, c.loop-dependency.invariant.1, c.loop-dependency.invariant.2)
    ]
