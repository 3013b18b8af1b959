use Rattle.std.proofs.Common.{◌≡◌, ℕ, true, List, [], ◌∷◌, ◌++◌, length, rules, ap, sym, ◌∙◌, subst}
use Rattle.task_types.specs.declared.task_def.TaskDef.{TaskDef}
use Rattle.dep_graph.specs.declared.node.Progress.{Progress}
use Rattle.dep_graph.specs.declared.node.Requires.{Requires}
use Rattle.dep_graph.specs.Nodes.{Task, Adding, TaskGraph, added, moved, may_be_added}
use Rattle.task_index.specs.Dependencies.{needs_of, progress_of, ids_of, places_in, adding_of, AreDependencies}
use Rattle.task_index.proofs.AddedLemmas.{added-are}
use Rattle.task_index.proofs.dependencies.DependencyGraph.add.Goals as goal

same-added : (r n : ℕ) (a b : Requires) (ps qs : List ℕ) (ts us : List Task) → r ≡ n → a ≡ b → ps ≡ qs → ts ≡ us → added r a ps ts ≡ added n b qs us
same-added r n a b ps qs ts us row needs places tasks =
    ap (λ x. added x a ps ts) row ∙ (ap (λ (x : Requires). added n x ps ts) needs ∙ (ap (λ (x : List ℕ). added n b x ts) places ∙ ap (added n b qs) tasks))

same-moved : (r n : ℕ) (p q : Progress) (ts us : List Task) → r ≡ n → p ≡ q → ts ≡ us → moved r p ts ≡ moved n q us
same-moved r n p q ts us row progress tasks = ap (λ x. moved x p ts) row ∙ (ap (λ (x : Progress). moved n x ts) progress ∙ ap (moved n q) tasks)

pub returns-clause-added : goal.returns-clause-added
returns-clause-added c =
    let rows = c.args.rows.now in
    let row = c.args.row.now in
    let tasks = c.args.self.now.tasks in
    let n : ℕ = length rows in
    let places : List ℕ = places_in (ids_of rows ++ row.id ∷ []) row.definition.dependencies in
    let noted : c.in-Some.noted ≡ adding_of rows row.id row.definition.dependencies = c.is_of.ensures.0 (search rules) in
    let row_is : c.in-Some.noted.row ≡ n = ap (λ (a : Adding). a.row) noted in
    let places_are : c.in-Some.noted.dependencies ≡ places = ap (λ (a : Adding). a.dependencies) noted in
    let same : c.self.inside.graph.tasks ≡ tasks = ap (λ (g : TaskGraph). g.tasks) c.self.view_is in
    let may : may_be_added tasks n places ≡ true =
    ap (λ (ts : List Task). may_be_added ts n places) (sym same)
    ∙ (ap (λ r. may_be_added c.self.inside.graph.tasks r places) (sym (c.place.ensures ∙ row_is))
    ∙ (ap (may_be_added c.self.inside.graph.tasks c.place.result) (sym (c.dependencies.ensures ∙ places_are))
    ∙ (sym c.may_add-may_add.ensures.value ∙ c.if-not-may_add.false))) in
    let needs : Requires = needs_of row.definition.requires_ in
    let needs_are : c.needs_of-needs.result ≡ needs = c.needs_of-needs.ensures ∙ ap (λ (d : TaskDef). needs_of d.requires_) c.definition.ensures in
    let came : c.state_changed.new.self.tasks ≡ moved n (progress_of row) (added n needs places tasks) =
    ap (λ (g : TaskGraph). g.tasks) c.state_changed.ensures
    ∙ same-moved c.place-3.result n c.progress_of.result (progress_of row) c.add.new.self.tasks (added n needs places tasks) (c.place-3.ensures ∙ row_is) c.progress_of.ensures
    (ap (λ (g : TaskGraph). g.tasks) c.add.ensures
    ∙ same-added c.place-2.result n c.needs_of-needs.result needs c.dependencies-2.result.now places c.self.inside.graph.tasks tasks (c.place-2.ensures ∙ row_is) needs_are (c.dependencies-2.ensures ∙ places_are) same) in
    λ _. subst (λ (ts : List Task). AreDependencies ts (rows ++ row ∷ [])) (sym came) (added-are tasks rows row c.requires.all may)
