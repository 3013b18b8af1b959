use Rattle.std.proofs.Common.{Option, subst}
use Rattle.task_index.specs.Placed.{PlaceMap, MayBeKept}
use Rattle.task_index.proofs.PlacedLemmas.{noted-keeps}
use Rattle.task_index.proofs.places.note_new.Goals as goal

pub returns-in-Some : goal.returns-in-Some
returns-in-Some c =
    λ ids none kept. noted-keeps c.in-Some.places c.note.new.places c.args.id c.args.place c.note.result c.note.ensures.noted c.note.ensures.unchanged ids none
    (subst (λ (places : Option PlaceMap). MayBeKept places ids) c.in-Some.is kept)
