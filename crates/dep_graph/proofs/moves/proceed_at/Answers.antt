use Rattle.std.proofs.Common.{◌≡◌, ◌∙◌, length, ap, sym, arith, vec_capacity}
use Rattle.std.proofs.lemmas.List.{length-map, length-set}
use Rattle.dep_graph.specs.declared.edges.Edges.{Edges}
use Rattle.dep_graph.specs.Nodes.{Task, rows_of, dependants_of}
use Rattle.dep_graph.specs.Kept.{edges_of}
use Rattle.dep_graph.proofs.EdgeLemmas.{place-within-tasks, edge-within, dependants-at}
use Rattle.dep_graph.proofs.MoveLemmas.{steps-well, steps-done, moved-long}
use Rattle.dep_graph.proofs.moves.proceed_at.Goals as goal

pub at-requires : goal.at-requires
at-requires c = place-within-tasks c.args.tasks.now.tasks c.args.row c.args.place c.requires.at

pub at-requires-2 : goal.at-requires-2
at-requires-2 c =
    let below = place-within-tasks c.args.tasks.now.tasks c.args.row c.args.place c.requires.at in
    let long = moved-long c.args.tasks.now.tasks c.proceed.new.self.tasks c.args.row c.args.progress c.proceed.ensures.tasks in
    omega (arith, below, long)

pub look-requires : goal.look-requires
look-requires c =
    let below = place-within-tasks c.args.tasks.now.tasks c.args.row c.args.place c.requires.at in
    let long = c.requires.counted.long in
    let fit = c.requires.counted.fit in
    record { count = omega (arith, below, long); place = omega (arith, below, fit) }

pub bounds-edges-place : goal.bounds-edges-place
bounds-edges-place c =
    let lists : length (edges_of c.args.edges.now) ≡ length (rows_of c.args.tasks.now.tasks) = ap length c.requires.edges ∙ (length-map c.args.tasks.now.tasks (λ (t : Task). dependants_of c.args.tasks.now.tasks t.row) ∙ sym (length-map c.args.tasks.now.tasks (λ (t : Task). t.row))) in
    edge-within (rows_of c.args.tasks.now.tasks) c.args.row c.args.place c.args.edges.now lists c.requires.at

pub count_each-requires : goal.count_each-requires
count_each-requires c =
    let tasks = c.args.tasks.now.tasks in
    let new = c.proceed.new.self.tasks in
    let waits = c.args.waits.now in
    let lacking = waits.lacking.items in
    let told = dependants-at tasks c.args.edges.now c.args.row c.args.place c.index-edges-place.result c.requires.edges c.requires.at c.index-edges-place.is in
    let names : c.deref.result.now ≡ dependants_of tasks c.args.row = c.deref.ensures.value ∙ (ap (λ (e : Edges). e.rows.items) (sym c.index-edges-place.is) ∙ told) in
    rw c.look.ensures.lacking (steps-well tasks new lacking c.deref.result.now waits.ready c.look.new.self.ready c.args.row c.args.place c.at.result.now c.at-2.result.now c.progress-before.result c.args.progress c.requires.own c.requires.at c.at.ensures c.progress-before.ensures c.requires.counted names c.proceed.ensures.tasks c.at-2.ensures c.look.ensures.ready)

pub returns-clause-counted : goal.returns-clause-counted
returns-clause-counted c =
    let tasks = c.args.tasks.now.tasks in
    let new = c.proceed.new.self.tasks in
    let waits = c.args.waits.now in
    let lacking = waits.lacking.items in
    let told = dependants-at tasks c.args.edges.now c.args.row c.args.place c.index-edges-place.result c.requires.edges c.requires.at c.index-edges-place.is in
    let names : c.deref.result.now ≡ dependants_of tasks c.args.row = c.deref.ensures.value ∙ (ap (λ (e : Edges). e.rows.items) (sym c.index-edges-place.is) ∙ told) in
    steps-done tasks new lacking c.deref.result.now c.count_each.new.self.lacking.items waits.ready c.look.new.self.ready c.count_each.new.self.ready c.args.row c.args.place c.at.result.now c.at-2.result.now c.progress-before.result c.args.progress c.requires.own c.requires.at c.at.ensures c.progress-before.ensures
    c.requires.counted names c.proceed.ensures.tasks c.look.ensures.ready
    (rw (← c.look.ensures.lacking) c.count_each.ensures.counts)

pub returns-clause-places : goal.returns-clause-places
returns-clause-places c = c.count_each.ensures.counts.fit ∙ (ap length c.look.ensures.ready ∙ length-set c.args.waits.now.ready c.args.place _)

pub returns-clause-count_room : goal.returns-clause-count_room
returns-clause-count_room c = c.count_each.ensures.capacity ∙ ap vec_capacity c.look.ensures.lacking
