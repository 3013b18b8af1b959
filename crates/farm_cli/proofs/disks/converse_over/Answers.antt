use Rattle.std.proofs.Common.{sym, ap, ◌∙◌, inl, inr, rules}
use Rattle.farm_core.specs.Farm.{state_of}
use Rattle.farm_cli.proofs.RunLemmas.{WereLent-from_calls, LentOver-from, has_opening, has_held, HasHistory-from_turns, ConversedOver-from, halted_status, work_status}
use Rattle.farm_cli.proofs.disks.converse_over.Goals as goal

-- no farm could be opened
pub returns-in-Err-clause-conversed : goal.returns-in-Err-clause-conversed
returns-in-Err-clause-conversed g c = elim c.in-Err.ensures.opened [ inl missing ↦ inr (inr missing) | inr unopened ↦ inr (inl unopened) ]

-- it has halted
pub returns-then-halted-clause-conversed : goal.returns-then-halted-clause-conversed
returns-then-halted-clause-conversed g c =
    let has = c.in-Ok.ensures.opened in
    let were = WereLent-from_calls _ _ _ _ _ _ _ _ _ _ _ _ _ c.console-console.ensures.gives c.console-console.ensures.lends c.clock-clock.ensures.gives c.clock-clock.ensures.lends c.draws-draws.ensures.gives c.draws-draws.ensures.lends c.back_console.ensures.lends c.back_clock.ensures.lends c.back_draws.ensures.lends in
    let lent = LentOver-from _ _ _ _ _ _ _ _ _ _ _ _ _ has.could has.lends were (rw c.into_disk.ensures at c.back_disk.ensures.lends) in
    let refusals =
    c.back_disk.ensures.refusals ∙ (c.back_draws.ensures.refusals ∙ (c.back_clock.ensures.refusals ∙ (c.back_console.ensures.refusals
    ∙ (c.draws-draws.ensures.refusals ∙ (c.clock-clock.ensures.refusals ∙ c.console-console.ensures.refusals))))) in
    let serves = c.serve_connection-served.ensures.serves in
    let opening = has_opening _ _ _ _ _ _ _ _ _ _ has in
    let farm = c.into_object-farm.result in
    let fresh = c.new-desk.ensures.fresh opening (sym (ap (state_of _ _) has.at_work)) (has_held _ _ _ _ _ _ _ _ _ _ has) in
    let history = HasHistory-from_turns _ farm.records.disk farm.records.end opening (state_of farm.config farm.tables farm.records.halted) _ _ serves.asks serves.replies fresh serves.asked
    (λ seen mine stands. (c.into_object-farm.ensures.stood opening seen mine).0 stands) in
    inl (ConversedOver-from _ _ _ _ _ _ _ _ _ _ _ _ has _ _ _ _ _ _ _ lent refusals serves.asks serves.replies c.serve_connection-served.result _ _ serves.spoke history (halted_status farm.records.halted c.serve_connection-served.result _ (search rules) c.on_disk.ensures))

-- it is at work
pub returns-clause-conversed : goal.returns-clause-conversed
returns-clause-conversed g c =
    let has = c.in-Ok.ensures.opened in
    let were = WereLent-from_calls _ _ _ _ _ _ _ _ _ _ _ _ _ c.console-console.ensures.gives c.console-console.ensures.lends c.clock-clock.ensures.gives c.clock-clock.ensures.lends c.draws-draws.ensures.gives c.draws-draws.ensures.lends c.back_console.ensures.lends c.back_clock.ensures.lends c.back_draws.ensures.lends in
    let lent = LentOver-from _ _ _ _ _ _ _ _ _ _ _ _ _ has.could has.lends were (rw c.into_disk.ensures at c.back_disk.ensures.lends) in
    let refusals =
    c.back_disk.ensures.refusals ∙ (c.back_draws.ensures.refusals ∙ (c.back_clock.ensures.refusals ∙ (c.back_console.ensures.refusals
    ∙ (c.draws-draws.ensures.refusals ∙ (c.clock-clock.ensures.refusals ∙ c.console-console.ensures.refusals))))) in
    let serves = c.serve_connection-served.ensures.serves in
    let opening = has_opening _ _ _ _ _ _ _ _ _ _ has in
    let farm = c.into_object-farm.result in
    let fresh = c.new-desk.ensures.fresh opening (sym (ap (state_of _ _) has.at_work)) (has_held _ _ _ _ _ _ _ _ _ _ has) in
    let history = HasHistory-from_turns _ farm.records.disk farm.records.end opening (state_of farm.config farm.tables farm.records.halted) _ _ serves.asks serves.replies fresh serves.asked
    (λ seen mine stands. (c.into_object-farm.ensures.stood opening seen mine).0 stands) in
    inl (ConversedOver-from _ _ _ _ _ _ _ _ _ _ _ _ has _ _ _ _ _ _ _ lent refusals serves.asks serves.replies c.serve_connection-served.result _ _ serves.spoke history (work_status farm.records.halted c.serve_connection-served.result _ (search rules) c.after_serving.ensures))
