use Rattle.std.proofs.Common.{◌≡◌, ◌∙◌, slice_set, slice_index, ap}
use Rattle.std.proofs.lemmas.Grind.{get_or_default_zero}
use Rattle.dep_graph.specs.Tables.{shown}
use Rattle.dep_graph.proofs.waits.Waits.look.Goals as goal

pub returns-clause-ready : goal.returns-clause-ready
returns-clause-ready c =
    let held : c.index.result.now ≡ slice_index c.args.self.now.lacking.items c.args.place = c.index.ensures ∙ get_or_default_zero c.args.self.now.lacking.items c.args.place c.index.result.now c.requires.count in
    c.put.ensures ∙ ap (slice_set c.args.self.now.ready c.args.place) (c.shown.ensures ∙ ap (shown c.args.task.now) held)
