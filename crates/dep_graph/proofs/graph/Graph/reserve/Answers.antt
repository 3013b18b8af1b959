use Rattle.std.proofs.Common.{◌≡◌, ap, sym, subst, vec_capacity}
use Rattle.dep_graph.specs.Nodes.{Task, rows_of}
use Rattle.dep_graph.specs.Kept.{HasRooms}
use Rattle.dep_graph.proofs.GraphLemmas.{kept-room, edges-long}
use Rattle.dep_graph.proofs.MoveLemmas.{counted-same}
use Rattle.dep_graph.proofs.graph.Graph.reserve.Goals as goal

pub make_all_room-requires : goal.make_all_room-requires
make_all_room-requires c =
    let g = c.self.inside in
    record { own = c.self.invariant.0.own_rows; len = edges-long g.tasks.tasks g.edges.items g.tasks.capacity (vec_capacity g.edges) g.room c.self.invariant.0 }

pub invariant_of-self-2 : goal.invariant_of-self-2
invariant_of-self-2 c =
    let g = c.self.inside in
    let made = c.in_ok-new.field-0 in
    let told = c.make_all_room.ensures in
    let room = c.in_ok-make_all_room.ensures.room in
    let now = c.make_all_room.new.tasks in
    let edges = c.make_all_room.new.edges in
    let waits = c.make_all_room.new.waits in
    let needs_are : made.node.dependencies ≡ c.args.dependencies.now = ap (λ (t : Task). t.dependencies) c.in_ok-new.ensures.node in (
      kept-room g.tasks.tasks now.tasks g.edges.items edges.items g.tasks.capacity (vec_capacity g.edges) now.capacity (vec_capacity edges) g.room made c.self.invariant.0 told.tasks told.edges
          (record {
            task = room.task;
            list = room.list;
            own = c.in_ok-new.ensures.edges.0;
            own_room = c.in_ok-new.ensures.edges.1;
            created = ap (λ (t : Task). t.progress) c.in_ok-new.ensures.node;
            rooms = subst (λ l. HasRooms (rows_of now.tasks) l edges.items) (sym needs_are) room.rooms;
          }),
      counted-same g.tasks.tasks now.tasks g.waits.lacking.items waits.lacking.items g.waits.ready waits.ready c.self.invariant.1 told.tasks told.lacking told.more told.ready,
      λ addition is. (room.count, room.place),
    )
