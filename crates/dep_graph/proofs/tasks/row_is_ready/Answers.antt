use Rattle.std.proofs.Common.{sym, ap, ◌∙◌}
use Rattle.std.proofs.lemmas.Option.{get_or_from_slice_get}
use Rattle.dep_graph.specs.Ready.{is_ready}
use Rattle.dep_graph.proofs.TaskLemmas.{one-passes, none-passes}
use Rattle.dep_graph.proofs.EdgeLemmas.{place-within-tasks}
use Rattle.dep_graph.proofs.tasks.row_is_ready.Goals as goal

pub at-requires : goal.at-requires
at-requires c = place-within-tasks c.args.tasks.now.tasks c.args.row c.in-Some.place c.in-Some.ensures.some

pub returns-in-Some : goal.returns-in-Some
returns-in-Some c =
    let tasks = c.args.tasks.now.tasks in
    let task = c.at.result.now in
    let is = get_or_from_slice_get tasks c.in-Some.place task task c.at.ensures in
    c.is_ready.ensures ∙ (ap (is_ready tasks) (sym is)
    ∙ one-passes (is_ready tasks) tasks c.args.row c.in-Some.place task c.requires c.in-Some.ensures.some)

pub returns-in-None : goal.returns-in-None
returns-in-None c = sym (none-passes (is_ready c.args.tasks.now.tasks) c.args.tasks.now.tasks c.args.row c.in-None.ensures.none)
