use Rattle.std.proofs.Common.{◌≡◌, true, List, ◌∙◌, ap, subst}
use Rattle.std.specs.List.{list_all}
use Rattle.run_states.specs.Rows.{Row}
use Rattle.task_index.specs.Dependencies.{ids_of, depends_on_these}
use Rattle.task_index.specs.declared.lists.TaskList.TheVariants.{Dependants}
use Rattle.task_index.specs.Listing.{places_of}
use Rattle.task_index.proofs.ComingLemmas.{unwaited}
use Rattle.farm_rows.proofs.tables.TaskTables.dependants.Goals as goal

pub returns-clause-none : goal.returns-clause-none
returns-clause-none c none =
    let stand = subst (λ (rows : List Row). list_all (depends_on_these (ids_of rows)) rows ≡ true) (ap (λ contents. contents.rows) c.self.view_is) c.self.invariant.listed.waited.stand in
    let same : c.deref.result.now ≡ c.args.self.now.rows = c.deref.ensures.value ∙ ap (λ contents. contents.rows) c.self.view_is in
    c.dependants_of.ensures ∙ ap (places_of (Dependants c.args.id)) same ∙ unwaited c.args.self.now.rows c.args.id stand none
