use Rattle.std.proofs.Common.{ap, sym, ◌∙◌, slice_set}
use Rattle.run_states.specs.Rows.{Row, exceeded}
use Rattle.run_states.proofs.LaterLemmas.{exceeded-later}
use Rattle.task_index.specs.Due.{meets_deadline}
use Rattle.task_index.proofs.IndexLemmas.{index-but, set-within}
use Rattle.task_index.proofs.PlaceLemmas.{place-changed, place-none, place-any, place-no}
use Rattle.farm_rows.proofs.turns.meet_deadline.Goals as goal

pub returns-in_default-clause-rows : goal.returns-in_default-clause-rows
returns-in_default-clause-rows c = place-none (meets_deadline c.args.at) (λ (r : Row). exceeded c.args.at r) c.args.rows.now (sym c.in_default.ensures)

pub returns-in_default-clause-found : goal.returns-in_default-clause-found
returns-in_default-clause-found c = sym (place-no (meets_deadline c.args.at) c.args.rows.now (sym c.in_default.ensures))

pub returns-clause-rows : goal.returns-clause-rows
returns-clause-rows c =
    ap (slice_set c.args.rows.now c.in-Some.place) c.exceed.ensures.row
    ∙ place-changed (meets_deadline c.args.at) (λ (r : Row). exceeded c.args.at r) c.args.rows.now c.in-Some.place c.index-rows-place.result (sym c.in-Some.ensures)

pub returns-clause-found : goal.returns-clause-found
returns-clause-found c = sym (place-any (meets_deadline c.args.at) c.args.rows.now c.in-Some.place c.index-rows-place.result (sym c.in-Some.ensures))

pub changed-requires-clause-within : goal.changed-requires-clause-within
changed-requires-clause-within c = set-within (meets_deadline c.args.at) c.args.rows.now c.in-Some.place c.index-rows-place.result _ c.in-Some.ensures

pub changed-requires-clause-index : goal.changed-requires-clause-index
changed-requires-clause-index c =
    index-but c.args.index.now c.args.rows.now c.in-Some.place c.index-rows-place.result _ (exceeded c.args.at) c.requires (exceeded-later c.args.at) c.exceed.ensures.row
