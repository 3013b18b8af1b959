use Rattle.std.proofs.Common.{◌≡◌, ℕ, Some, OnOk, subst}
use Rattle.task_groups.specs.Placed.{kept_of}
use Rattle.task_groups.proofs.PlacedLemmas.{noted-keeps, noted-place}
use Rattle.task_groups.proofs.places.note_new.Goals as goal

pub returns-clause-noted : goal.returns-clause-noted
returns-clause-noted c =
    let same : c.in-Ok.place ≡ c.args.place = c.in-Ok.ensures.1 in
    let P : ℕ → Type 0 = λ place. OnOk c.note.result (kept_of c.note.new.places c.args.id ≡ Some place) in
    subst P same (noted-place c.args.places.now c.note.new.places c.args.id c.in-Ok.place c.note.result c.note.ensures.noted)

pub returns-clause-others : goal.returns-clause-others
returns-clause-others c = noted-keeps c.args.places.now c.note.new.places c.args.id c.in-Ok.place c.note.result c.note.ensures.noted c.note.ensures.unchanged
