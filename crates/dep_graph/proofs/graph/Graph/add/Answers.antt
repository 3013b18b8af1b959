use Rattle.std.proofs.Common.{◌≡◌, ◌<◌, ◌==◌, ◌^◌, List, ℕ, Some, None, option_map, ◌++◌, ◌∷◌, [], false, true, length, refl, sym, ◌∙◌, ap, subst, arith, rules, vec_len, vec_capacity}
use Rattle.std.specs.Prelude.{All, ◌||◌}
use Rattle.std.specs.List.{IsDistinct}
use Rattle.dep_graph.specs.Nodes.{Task, TaskGraph, Adding, rows_of, is_in}
use Rattle.dep_graph.specs.Kept.{adding_of, with_edges, own_edges, edges_of, HasRooms}
use Rattle.dep_graph.specs.Tables.{lacks}
use Rattle.dep_graph.proofs.GraphLemmas.{kept-added, edges-long}
use Rattle.dep_graph.proofs.MoveLemmas.{counted-added}
use Rattle.dep_graph.proofs.graph.Graph.add.Goals as goal

-- what the room says of the task
named-by : (room : Adding) (row : ℕ) (dependencies : List ℕ) → Some room ≡ Some (record { row = row; dependencies = dependencies }) → (room.row ≡ row) × (room.dependencies ≡ dependencies)
named-by room row dependencies is =
    let same : room ≡ record { row = row; dependencies = dependencies } = cc in
    (ap (λ (a : Adding). a.row) same, ap (λ (a : Adding). a.dependencies) same)

pub count_lacking-lacking-requires : goal.count_lacking-lacking-requires
count_lacking-lacking-requires c = c.self.invariant.0.own_rows

pub push-requires : goal.push-requires
push-requires c =
    let taken = sym c.take.ensures.value ∙ c.in-Some.is in
    let room = c.self.invariant.2 c.in-Some.addition taken in
    let long = c.self.invariant.1.long in
    record { count = room.0; place = omega (arith, long, room.1) }

pub add_edges-requires : goal.add_edges-requires
add_edges-requires c =
    let g = c.self.inside in
    let taken = sym c.take.ensures.value ∙ c.in-Some.is in
    let room_is = ap (λ (graph : TaskGraph). graph.room) c.self.view_is in
    let named = named-by (adding_of c.in-Some.addition) c.args.row c.args.dependencies.now (sym (ap (option_map adding_of) taken) ∙ (room_is ∙ c.requires.room)) in
    let room = c.self.invariant.0.room_is c.in-Some.addition taken in
    record {
      own = c.self.invariant.0.own_rows;
      len = edges-long g.tasks.tasks g.edges.items g.tasks.capacity (vec_capacity g.edges) g.room c.self.invariant.0;
      distinct = c.requires.distinct;
      rooms = subst (λ (l : List ℕ). HasRooms (rows_of g.tasks.tasks) l g.edges.items) named.1 room.rooms;
    }

pub add_task-requires : goal.add_task-requires
add_task-requires c =
    let g = c.self.inside in
    let taken = sym c.take.ensures.value ∙ c.in-Some.is in
    let room_is = ap (λ (graph : TaskGraph). graph.room) c.self.view_is in
    let tasks_are = ap (λ (graph : TaskGraph). graph.tasks) c.self.view_is in
    let named = named-by (adding_of c.in-Some.addition) c.args.row c.args.dependencies.now (sym (ap (option_map adding_of) taken) ∙ (room_is ∙ c.requires.room)) in
    let room = c.self.invariant.0.room_is c.in-Some.addition taken in
    let row_is : c.in-Some.addition.node.row ≡ c.args.row = named.0 in
    let was : vec_len g.edges ≡ length g.edges.items = search rules in
    let len = c.add_edges.ensures.len in
    let cap = c.add_edges.ensures.capacity in
    let list = room.list in
    record {
      task = room.task;
      new = rw (tasks_are, row_is) c.requires.new;
      list = omega (arith, was, len, cap, list);
      own = room.own;
      own_room = room.own_room;
    }

pub invariant_of-self : goal.invariant_of-self
invariant_of-self c =
    let g = c.self.inside in
    let tasks = g.tasks.tasks in
    let node = c.in-Some.addition.node in
    let t : Task = record node { needs = c.args.needs } in
    let taken = sym c.take.ensures.value ∙ c.in-Some.is in
    let tasks_are : tasks ≡ c.args.self.now.tasks = ap (λ (graph : TaskGraph). graph.tasks) c.self.view_is in
    let room_is = ap (λ (graph : TaskGraph). graph.room) c.self.view_is in
    let named = named-by (adding_of c.in-Some.addition) c.args.row c.args.dependencies.now (sym (ap (option_map adding_of) taken) ∙ (room_is ∙ c.requires.room)) in
    let row_is : node.row ≡ c.args.row = named.0 in
    let needs_are : node.dependencies ≡ c.args.dependencies.now = named.1 in
    let P : List Task → Type 0 = λ l. is_in (rows_of l) node.row ≡ false in
    let new : is_in (rows_of tasks) node.row ≡ false = subst P (sym tasks_are) (ap (is_in (rows_of c.args.self.now.tasks)) row_is ∙ c.requires.new) in
    let stand : All (λ held. ((held == node.row) || is_in (rows_of tasks) held) ≡ true) node.dependencies = rw (tasks_are, row_is, needs_are) c.requires.stand in
    let lists : edges_of c.add_edges.new.edges.items ≡ with_edges (rows_of tasks) node.row node.dependencies (edges_of g.edges.items) =
    c.add_edges.ensures.edges ∙ rw (row_is, needs_are) refl in
    let are : edges_of c.add_task.new.edges.items ≡ with_edges (rows_of tasks) node.row node.dependencies (edges_of g.edges.items) ++ own_edges node.row node.dependencies ∷ [] =
    c.add_task.ensures.edges ∙ ap (λ l. l ++ own_edges node.row node.dependencies ∷ []) lists in
    let room = c.self.invariant.2 c.in-Some.addition taken in
    let created = (c.self.invariant.0.room_is c.in-Some.addition taken).created in
    let count : c.count_lacking-lacking.result ≡ lacks tasks c.args.needs node.dependencies = c.count_lacking-lacking.ensures.lacks ∙ ap (lacks tasks c.args.needs) (sym needs_are) in
    let counted = counted-added tasks g.waits.lacking.items g.waits.ready c.push.new.self.ready t c.count_lacking-lacking.result c.self.invariant.1 created (subst (IsDistinct ◌==◌) (sym needs_are) c.requires.distinct) (subst (λ (l : List ℕ). length l < 2 ^ 63) (sym needs_are) c.count_lacking-lacking.ensures.few)
    count room.1 c.push.ensures.ready in
    rw (c.add_task.ensures.tasks, c.take.ensures.after, c.push.ensures.lacking) (
      kept-added tasks g.edges.items c.add_task.new.edges.items g.tasks.capacity (vec_capacity g.edges) c.add_task.new.tasks.capacity (vec_capacity c.add_task.new.edges) g.room t c.self.invariant.0 new stand are,
      counted,
      λ x is. absurd (let e : None ≡ Some x = is in cc),
    )
