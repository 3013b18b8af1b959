use Rattle.std.proofs.Common.{◌<◌, ◌≤◌, ℕ, length, sym, ◌∙◌, subst, arith, rules}
use Rattle.std.specs.Prelude.{slice_index}
use Rattle.dep_graph.specs.Nodes.{rows_of}
use Rattle.dep_graph.specs.Kept.{spares}
use Rattle.dep_graph.proofs.EdgeLemmas.{rooms-step, rooms-step_nowhere, rooms-whole, one-place, next-name}
use Rattle.dep_graph.proofs.edges.make_room.Goals as goal
use Rattle.dep_graph.proofs.edges.make_room.Goals.{in-Some+in_ok-make_room_at-in-Some, in-None}

pub loop-row-preserved : goal.loop-row-preserved
loop-row-preserved c =
    let rows = rows_of c.args.tasks.now.tasks in
    let names = c.args.rows.now in
    let i = c.loop-row.row-index in
    let edges = c.loop-row.edges.items in
    let within : i < length names = search (rules, arith) in
    let next = next-name names i within in
    elim c.match-place_of.branch [
      | in-Some+in_ok-make_room_at-in-Some w ↦
          let place = w.in-Some.place in
          let here : 0 < slice_index (spares w.make_room_at.new.edges.items) place = w.in_ok-make_room_at-in-Some.ensures.room in
          let Q : ℕ → Type 0 = λ p. 0 < slice_index (spares w.make_room_at.new.edges.items) p in
          rw w.edges-is (
            w.make_room_at.ensures.same ∙ c.loop-row.invariant.0,
            rooms-step rows names i (slice_index names i) edges w.make_room_at.new.edges.items within next c.loop-row.invariant.1 w.make_room_at.ensures.kept
                (λ p at. subst Q (sym (one-place rows (slice_index names i) p place c.requires.own at w.in-Some.ensures.some)) here),
          )
      | in-None w ↦
          rw w.edges-is (c.loop-row.invariant.0, rooms-step_nowhere rows names i (slice_index names i) edges within next c.loop-row.invariant.1 w.in-None.ensures.none)
    ]

pub returns-clause-rooms : goal.returns-clause-rooms
returns-clause-rooms c =
    let past : length c.args.rows.now ≤ c.loop-row.row-index = search (rules, arith) in
    rooms-whole (rows_of c.args.tasks.now.tasks) c.args.rows.now c.loop-row.row-index c.loop-row.edges.items past c.loop-row.invariant.1
