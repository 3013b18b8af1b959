use Rattle.std.proofs.Common.{◌≡◌, Some, None, false, sym, subst}
use Rattle.std.specs.Prelude.{slice_get, nat_eq}
use Rattle.std.specs.HashMap.{get}
use Rattle.dep_graph.specs.Nodes.{rows_of, is_in}
use Rattle.dep_graph.specs.Tables.{TaskTable, IsPlaceOf}
use Rattle.dep_graph.proofs.tasks.Tasks.place_of.Goals as goal

pub returns-in-Some-clause-some : goal.returns-in-Some-clause-some
returns-in-Some-clause-some c =
    let tasks = c.self.inside.nodes.items in
    let found : get nat_eq c.self.inside.places c.args.row ≡ Some c.in-Some.place.now = sym (c.in-Some.ensures.value) in
    let at : slice_get (rows_of tasks) c.in-Some.place.now ≡ Some c.args.row = subst (IsPlaceOf (rows_of tasks) c.args.row) found (c.self.invariant c.args.row) in
    subst (λ (t : TaskTable). slice_get (rows_of t.tasks) c.in-Some.place.now ≡ Some c.args.row) c.self.view_is at

pub returns-in-None-clause-none : goal.returns-in-None-clause-none
returns-in-None-clause-none c =
    let tasks = c.self.inside.nodes.items in
    let found : get nat_eq c.self.inside.places c.args.row ≡ None = sym (c.in-None.ensures.value) in
    let none : is_in (rows_of tasks) c.args.row ≡ false = subst (IsPlaceOf (rows_of tasks) c.args.row) found (c.self.invariant c.args.row) in
    subst (λ (t : TaskTable). is_in (rows_of t.tasks) c.args.row ≡ false) c.self.view_is none
