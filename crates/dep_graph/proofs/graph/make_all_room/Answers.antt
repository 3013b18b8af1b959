use Rattle.std.proofs.Common.{◌≡◌, ◌<◌, List, length, sym, subst, arith, rules, vec_len}
use Rattle.dep_graph.specs.Nodes.{Task, rows_of}
use Rattle.dep_graph.specs.Kept.{HasRooms}
use Rattle.dep_graph.specs.declared.edges.Edges.{Edges}
use Rattle.dep_graph.proofs.graph.make_all_room.Goals as goal

pub make_room-requires : goal.make_room-requires
make_room-requires c = record { own = c.requires.own; len = c.requires.len }

pub returns-clause-room : goal.returns-clause-room
returns-clause-room c =
    let before = c.make_room.new.edges.items in
    let after = c.reserve-2.new.self.items in
    let edges_len : vec_len c.reserve-2.new.self ≡ length after = search rules in
    let list = c.in_ok-reserve-2.ensures.ok in
    let rooms = subst (λ (l : List Edges). HasRooms (rows_of c.args.tasks.now.tasks) c.args.dependencies.now l) (sym c.reserve-2.ensures.items) c.in_ok-make_room.ensures.rooms in
    let place = subst (λ n. n < length c.reserve-3.new.self.ready) c.len.ensures c.in_ok-reserve-3.ensures.place in
    record {
      task = c.in_ok-reserve.ensures.room;
      list = omega (arith, edges_len, list);
      rooms = subst (λ (l : List Task). HasRooms (rows_of l) c.args.dependencies.now after) (sym c.reserve.ensures.same) rooms;
      count = c.in_ok-reserve-3.ensures.count;
      place = place;
    }
