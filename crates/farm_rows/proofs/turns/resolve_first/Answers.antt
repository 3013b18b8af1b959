use Rattle.std.proofs.Common.{sym, ◌∙◌}
use Rattle.farm_rows.proofs.StepLemmas.{claim-turn}
use Rattle.farm_rows.proofs.turns.resolve_first.Goals as goal

pub returns-clause-turn : goal.returns-clause-turn
returns-clause-turn c =
    claim-turn c.args.rows.now c.meet_deadline.new.rows c.lose_claim.new.rows c.args.number c.args.at c.lose_claim.result
    (sym c.meet_deadline.ensures.found ∙ c.if-meet_deadline.false) c.meet_deadline.ensures.rows c.lose_claim.ensures.rows c.lose_claim.ensures.drawn
