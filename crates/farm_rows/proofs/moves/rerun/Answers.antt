use Rattle.std.proofs.Common.{ap, sym, ◌∙◌, slice_set}
use Rattle.run_states.specs.Rows.{Row}
use Rattle.run_states.specs.Moves.{run_again}
use Rattle.run_states.proofs.LaterLemmas.{again-later}
use Rattle.task_index.specs.Changes.{has_id}
use Rattle.task_index.proofs.IndexLemmas.{index-but, set-within}
use Rattle.task_index.proofs.PlaceLemmas.{place-changed, place-none}
use Rattle.farm_rows.proofs.moves.rerun.Goals as goal

pub returns-in-Some-clause-rows : goal.returns-in-Some-clause-rows
returns-in-Some-clause-rows c =
    ap (slice_set c.args.rows.now c.in-Some.place) c.rerun.ensures.row
    ∙ place-changed (has_id c.args.id) (λ (r : Row). run_again c.args.number c.args.at r) c.args.rows.now c.in-Some.place c.index-rows-place.result (sym c.in-Some.ensures)

pub returns-in_default-clause-rows : goal.returns-in_default-clause-rows
returns-in_default-clause-rows c = place-none (has_id c.args.id) (λ (r : Row). run_again c.args.number c.args.at r) c.args.rows.now (sym c.in_default.ensures)

pub changed-requires-clause-within : goal.changed-requires-clause-within
changed-requires-clause-within c = set-within (has_id c.args.id) c.args.rows.now c.in-Some.place c.index-rows-place.result _ c.in-Some.ensures

pub changed-requires-clause-index : goal.changed-requires-clause-index
changed-requires-clause-index c =
    index-but c.args.index.now c.args.rows.now c.in-Some.place c.index-rows-place.result _ (run_again c.args.number c.args.at) c.requires (again-later c.args.number c.args.at) c.rerun.ensures.row
