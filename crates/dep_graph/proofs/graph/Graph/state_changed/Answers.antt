use Rattle.std.proofs.Common.{◌∙◌, List, ap, subst, sym, arith, option_map, vec_capacity}
use Rattle.dep_graph.specs.Nodes.{Task, TaskGraph, moved}
use Rattle.dep_graph.specs.Kept.{IsKept, adding_of, edges_of}
use Rattle.dep_graph.proofs.EdgeLemmas.{kept-moved}
use Rattle.dep_graph.proofs.MoveLemmas.{moved-long}
use Rattle.dep_graph.proofs.graph.Graph.state_changed.Goals as goal

pub proceed-requires : goal.proceed-requires
proceed-requires c = record {
  own = c.self.invariant.0.own_rows;
  edges = ap edges_of c.deref.ensures.value ∙ c.self.invariant.0.edges_are;
  counted = c.self.invariant.1;
}

pub invariant_of-self : goal.invariant_of-self
invariant_of-self c =
    let g = c.self.inside in
    let now = c.proceed.new.tasks in
    let P : List Task → Type 0 = λ l. IsKept l g.edges.items now.capacity (vec_capacity g.edges) g.room in
    let old = c.self.invariant.1 in
    let new = c.proceed.ensures.counted in (
      subst P (sym c.proceed.ensures.tasks) (kept-moved g.tasks.tasks g.edges.items g.tasks.capacity now.capacity (vec_capacity g.edges) c.args.row c.args.progress g.room c.proceed.ensures.task_room c.self.invariant.0),
      new,
      λ addition is.
          let had = c.self.invariant.2 addition is in
          let long = moved-long g.tasks.tasks now.tasks c.args.row c.args.progress c.proceed.ensures.tasks in
          let a = old.long in
          let b = new.long in
          let room = c.proceed.ensures.count_room in
          let places = c.proceed.ensures.places in
          (omega (arith, had.0, long, a, b, room), omega (arith, had.1, long, places)),
    )

pub returns : goal.returns
returns c =
    let room = option_map adding_of c.self.inside.room in
    ap (λ (l : List Task). let e : TaskGraph = record { tasks = l; room = room } in e) c.proceed.ensures.tasks ∙ ap (λ (g : TaskGraph). let e : TaskGraph = record { tasks = moved c.args.row c.args.progress g.tasks; room = g.room } in e) c.self.view_is
