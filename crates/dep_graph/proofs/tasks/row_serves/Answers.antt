use Rattle.std.proofs.Common.{sym, ap, ◌∙◌}
use Rattle.std.proofs.lemmas.Option.{get_or_from_slice_get}
use Rattle.dep_graph.specs.Nodes.{Task}
use Rattle.dep_graph.specs.Ready.{serves}
use Rattle.dep_graph.proofs.TaskLemmas.{one-serves, none-serves}
use Rattle.dep_graph.proofs.EdgeLemmas.{place-within-tasks}
use Rattle.dep_graph.proofs.tasks.row_serves.Goals as goal

pub at-requires : goal.at-requires
at-requires c = place-within-tasks c.args.tasks.now.tasks c.args.row c.in-Some.place c.in-Some.ensures.some

pub returns-in-Some : goal.returns-in-Some
returns-in-Some c =
    let task = c.at.result.now in
    let is = get_or_from_slice_get c.args.tasks.now.tasks c.in-Some.place task task c.at.ensures in
    c.is_met.ensures ∙ (ap (serves c.args.needs) (c.progress.ensures ∙ ap (λ (t : Task). t.progress) (sym is))
    ∙ one-serves c.args.tasks.now.tasks c.args.needs c.args.row c.in-Some.place task c.requires c.in-Some.ensures.some)

pub returns-in-None : goal.returns-in-None
returns-in-None c = sym (none-serves c.args.tasks.now.tasks c.args.needs c.args.row c.in-None.ensures.none)
