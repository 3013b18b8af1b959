use Rattle.std.proofs.Common.{ap, sym, ◌∙◌, slice_set, get_or}
use Rattle.run_states.specs.declared.reasons.ReasonResolved.{ReasonResolved}
use Rattle.run_states.specs.Rows.{Row}
use Rattle.run_states.specs.Moves.{resolved}
use Rattle.run_states.proofs.LaterLemmas.{resolved-later}
use Rattle.task_index.specs.Changes.{has_id, reason_of}
use Rattle.task_index.proofs.IndexLemmas.{index-but, set-within}
use Rattle.task_index.proofs.PlaceLemmas.{place-changed, place-none}
use Rattle.farm_rows.proofs.moves.resolve.Goals as goal

pub returns-in-Some-clause-rows : goal.returns-in-Some-clause-rows
returns-in-Some-clause-rows c =
    let r = c.args.resolution.now in
    let item = c.index-rows-place.result in
    ap (slice_set c.args.rows.now c.in-Some.place)
    (c.resolve.ensures.row ∙ ap (λ (reason : ReasonResolved). resolved r.run reason c.args.number c.args.at (get_or c.args.rows.now c.in-Some.place item)) c.reason_of-reason.ensures)
    ∙ place-changed (has_id r.id) (λ (row : Row). resolved r.run (reason_of r.reason) c.args.number c.args.at row) c.args.rows.now c.in-Some.place item (sym c.in-Some.ensures)

pub returns-in_default-clause-rows : goal.returns-in_default-clause-rows
returns-in_default-clause-rows c =
    let r = c.args.resolution.now in
    place-none (has_id r.id) (λ (row : Row). resolved r.run (reason_of r.reason) c.args.number c.args.at row) c.args.rows.now (sym c.in_default.ensures)

pub changed-requires-clause-within : goal.changed-requires-clause-within
changed-requires-clause-within c = set-within (has_id c.args.resolution.now.id) c.args.rows.now c.in-Some.place c.index-rows-place.result _ c.in-Some.ensures

pub changed-requires-clause-index : goal.changed-requires-clause-index
changed-requires-clause-index c =
    let r = c.args.resolution.now in
    let reason = c.reason_of-reason.result in
    index-but c.args.index.now c.args.rows.now c.in-Some.place c.index-rows-place.result _ (resolved r.run reason c.args.number c.args.at) c.requires (resolved-later r.run reason c.args.number c.args.at) c.resolve.ensures.row
