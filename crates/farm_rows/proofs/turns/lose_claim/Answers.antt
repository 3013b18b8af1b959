use Rattle.std.proofs.Common.{◌≡◌, ap, sym, ◌∙◌, min, Some, slice_set, rules}
use Rattle.run_states.specs.declared.reasons.ReasonResolved.TheVariants.{ClaimExpired}
use Rattle.run_states.specs.Rows.{Row, loses_claim}
use Rattle.run_states.specs.Moves.{expired}
use Rattle.run_states.proofs.LaterLemmas.{expired-later}
use Rattle.task_index.specs.Due.{draws}
use Rattle.farm_rows.proofs.FitLemmas.{min-one}
use Rattle.task_index.proofs.IndexLemmas.{index-but, set-within}
use Rattle.task_index.proofs.PlaceLemmas.{place-changed, place-found, place-none, place-lost}
use Rattle.farm_rows.proofs.turns.lose_claim.Goals as goal

pub returns-in_default-clause-rows : goal.returns-in_default-clause-rows
returns-in_default-clause-rows c = place-none (loses_claim c.args.at) (λ (r : Row). expired c.args.number c.args.at r) c.args.rows.now (sym c.in_default.ensures)

pub returns-in_default-clause-drawn : goal.returns-in_default-clause-drawn
returns-in_default-clause-drawn c = sym (ap (draws ClaimExpired) (place-lost (loses_claim c.args.at) c.args.rows.now (sym c.in_default.ensures)))

pub returns-clause-rows : goal.returns-clause-rows
returns-clause-rows c =
    ap (slice_set c.args.rows.now c.in-Some.place) c.expire.ensures.row
    ∙ place-changed (loses_claim c.args.at) (λ (r : Row). expired c.args.number c.args.at r) c.args.rows.now c.in-Some.place c.index-rows-place.result (sym c.in-Some.ensures)

pub returns-clause-drawn : goal.returns-clause-drawn
returns-clause-drawn c =
    let row = c.index-rows-place.result in
    let counted : c.from-drawn.result ≡ min row.retries_left 1 = search rules in
    counted ∙ (min-one row.retries_left
    ∙ (ap (λ (r : Row). draws ClaimExpired (Some r)) c.index-rows-place.is
    ∙ sym (ap (draws ClaimExpired) (place-found (loses_claim c.args.at) c.args.rows.now c.in-Some.place row (sym c.in-Some.ensures)))))

pub changed-requires-clause-within : goal.changed-requires-clause-within
changed-requires-clause-within c = set-within (loses_claim c.args.at) c.args.rows.now c.in-Some.place c.index-rows-place.result _ c.in-Some.ensures

pub changed-requires-clause-index : goal.changed-requires-clause-index
changed-requires-clause-index c =
    index-but c.args.index.now c.args.rows.now c.in-Some.place c.index-rows-place.result _ (expired c.args.number c.args.at) c.requires (expired-later c.args.number c.args.at) c.expire.ensures.row
