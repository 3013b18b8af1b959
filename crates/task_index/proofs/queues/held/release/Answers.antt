use Rattle.std.proofs.Common.{◌≡◌, true, false, sym, ◌∙◌}
use Rattle.task_index.proofs.QueueRoomLemmas.{released, not-held, held-known}
use Rattle.task_index.proofs.queues.held.release.Goals as goal

pub returns-else-eq : goal.returns-else-eq
returns-else-eq g c =
    released c.args.pending.now c.args.row
    (not-held c.args.pending.now c.args.row c.requires (λ is. let yes_ = held-known c.holds.result _ (c.holds.ensures ∙ is) in let both : true ≡ false = sym yes_ ∙ (sym c.eq.ensures ∙ c.if-eq.false) in absurd (cc)))
