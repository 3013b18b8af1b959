use Rattle.std.proofs.Common.{◌≡◌, ◌<◌, length, ap, refl, subst, arith}
use Rattle.std.specs.Prelude.{slice_get, Some}
use Rattle.std.proofs.lemmas.Option.{slice_get_read}
use Rattle.dep_graph.specs.Tables.{TaskTable}
use Rattle.dep_graph.proofs.tasks.Tasks.at.Goals as goal

pub returns : goal.returns
returns c =
    let tasks = c.self.inside.nodes.items in
    let long = ap (λ (t : TaskTable). length t.tasks) c.self.view_is in
    let within : c.args.place < length tasks = (let below = c.requires in omega arith) in
    subst (λ (t : TaskTable). slice_get t.tasks c.args.place ≡ Some c.index.result.now) c.self.view_is (slice_get_read tasks (length tasks) c.args.place c.index.result.now refl within c.index.ensures)
