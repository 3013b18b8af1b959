use Rattle.std.proofs.Common.{◌≡◌, ◌∙◌, List, ap, sym, subst, arith, rules}
use Rattle.std.specs.Prelude.{slice_get, Some}
use Rattle.std.proofs.Math.ListN.{set}
use Rattle.dep_graph.specs.Nodes.{Task, rows_of, moved}
use Rattle.dep_graph.specs.Tables.{TaskTable, KnowsPlaces}
use Rattle.dep_graph.specs.Kept.{HaveOwnRows}
use Rattle.dep_graph.proofs.TaskLemmas.{moved-at, moved-rows}
use Rattle.dep_graph.proofs.EdgeLemmas.{place-within-tasks}
use Rattle.dep_graph.proofs.tasks.Tasks.proceed.Goals as goal

pub index_mut-task-requires : goal.index_mut-task-requires
index_mut-task-requires c =
    let tasks = c.self.inside.nodes.items in
    let at = subst (λ (t : TaskTable). slice_get (rows_of t.tasks) c.args.place ≡ Some c.args.row) (sym c.self.view_is) c.requires.at in
    let within = place-within-tasks tasks c.args.row c.args.place at in search (rules, arith)

pub invariant_of-self : goal.invariant_of-self
invariant_of-self c =
    let tasks = c.self.inside.nodes.items in
    let task = c.index_mut-task.result.now in
    let own = subst (λ (t : TaskTable). HaveOwnRows t.tasks) (sym c.self.view_is) c.requires.own in
    let at = subst (λ (t : TaskTable). slice_get (rows_of t.tasks) c.args.place ≡ Some c.args.row) (sym c.self.view_is) c.requires.at in
    let is = ap (set tasks c.args.place) (c.proceed.ensures ∙ ap (λ (t : Task). record t { progress = c.args.progress }) c.index_mut-task.ensures.value) ∙ moved-at tasks c.args.row c.args.place c.args.progress task own at in
    subst (λ (l : List Task). KnowsPlaces (rows_of l) c.self.inside.places) (sym is) (subst (λ l. KnowsPlaces l c.self.inside.places) (sym (moved-rows c.args.row c.args.progress tasks)) c.self.invariant)

pub returns-clause-tasks : goal.returns-clause-tasks
returns-clause-tasks c =
    let tasks = c.self.inside.nodes.items in
    let task = c.index_mut-task.result.now in
    let own = subst (λ (t : TaskTable). HaveOwnRows t.tasks) (sym c.self.view_is) c.requires.own in
    let at = subst (λ (t : TaskTable). slice_get (rows_of t.tasks) c.args.place ≡ Some c.args.row) (sym c.self.view_is) c.requires.at in
    ap (set tasks c.args.place) (c.proceed.ensures ∙ ap (λ (t : Task). record t { progress = c.args.progress }) c.index_mut-task.ensures.value)
    ∙ (moved-at tasks c.args.row c.args.place c.args.progress task own at ∙ ap (λ (t : TaskTable). moved c.args.row c.args.progress t.tasks) c.self.view_is)
