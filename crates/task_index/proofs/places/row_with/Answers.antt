use Rattle.std.proofs.Common.{Some, ap, sym, ◌∙◌}
use Rattle.task_index.specs.Changes.{has_id}
use Rattle.task_index.proofs.PlaceLemmas.{place-found, place-lost}
use Rattle.task_index.proofs.places.row_with.Goals as goal

pub returns-in-Some : goal.returns-in-Some
returns-in-Some c =
    ap Some c.index-rows-place.is ∙ sym (place-found (has_id c.args.id) c.args.rows.now c.in-Some.place c.index-rows-place.result (sym c.in-Some.ensures))

pub returns-in-None : goal.returns-in-None
returns-in-None c = sym (place-lost (has_id c.args.id) c.args.rows.now (sym c.in-None.ensures))
