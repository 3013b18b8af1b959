use Rattle.std.proofs.Common.{◌≡◌, List, Some, ap, sym, ◌∙◌, subst}
use Rattle.std.proofs.lemmas.Option.{slice_get-get_or}
use Rattle.dep_graph.specs.declared.node.Progress.{Progress}
use Rattle.dep_graph.specs.Nodes.{Task, TaskGraph, moved}
use Rattle.task_index.specs.Dependencies.{progress_of, AreDependencies}
use Rattle.task_index.proofs.DependencyLemmas.{known-row}
use Rattle.task_index.proofs.dependencies.DependencyGraph.changed.Goals as goal

pub state_changed-requires : goal.state_changed-requires
state_changed-requires c =
    let rows = c.args.rows.now in
    let place = c.args.place in
    let row = c.index-rows-place.result in
    let tasks = c.self.inside.graph.tasks in
    known-row tasks rows place (progress_of row)
    (subst (λ (ts : List Task). AreDependencies (moved place (progress_of row) ts) rows) (sym (ap (λ (g : TaskGraph). g.tasks) c.self.view_is)) (c.requires.others row (slice_get-get_or rows place row c.requires.within ∙ ap Some (sym c.index-rows-place.is)))) c.requires.within

pub returns-clause-all : goal.returns-clause-all
returns-clause-all c =
    let rows = c.args.rows.now in
    let place = c.args.place in
    let row = c.index-rows-place.result in
    let came : c.state_changed.new.self.tasks ≡ moved place (progress_of row) c.args.self.now.tasks =
    ap (λ (g : TaskGraph). g.tasks) c.state_changed.ensures
    ∙ (ap (λ (p : Progress). moved place p c.self.inside.graph.tasks) c.progress_of-progress.ensures
    ∙ ap (λ (g : TaskGraph). moved place (progress_of row) g.tasks) c.self.view_is) in
    subst (λ (ts : List Task). AreDependencies ts rows) (sym came) (c.requires.others row (slice_get-get_or rows place row c.requires.within ∙ ap Some (sym c.index-rows-place.is)))
