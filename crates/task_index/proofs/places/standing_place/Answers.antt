use Rattle.std.proofs.Common.{sym, ◌∙◌}
use Rattle.task_index.proofs.PlacedLemmas.{place-unkept, place-checked}
use Rattle.task_index.proofs.places.standing_place.Goals as goal

pub returns-in-Some : goal.returns-in-Some
returns-in-Some c = c.checked.ensures ∙ place-checked c.args.places.now c.args.rows.now c.args.id c.in-Some.place c.requires (sym c.in-Some.ensures)

pub returns-in-None : goal.returns-in-None
returns-in-None c = place-unkept c.args.places.now c.args.rows.now c.args.id c.requires (sym c.in-None.ensures)
