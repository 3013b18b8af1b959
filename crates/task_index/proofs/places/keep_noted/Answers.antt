use Rattle.std.proofs.Common.{ap, sym, ◌∙◌}
use Rattle.task_index.specs.Placed.{is_noted}
use Rattle.task_index.proofs.PlacedLemmas.{kept-behind}
use Rattle.task_index.proofs.places.keep_noted.Goals as goal

pub returns-else-not-is_noted : goal.returns-else-not-is_noted
returns-else-not-is_noted c =
    λ ids long kept. kept-behind c.args.places.now c.args.id ids
    (ap (is_noted c.args.places.now c.args.id) long ∙ (sym c.is_noted.ensures ∙ c.if-not-is_noted.false)) kept
