use Rattle.std.proofs.Common.{[], ◌∷◌, subst, arith}
use Rattle.history.specs.Asks.{AsksInTurn}
use Rattle.history.proofs.AsksLemmas.{AsksInTurn-one}
use Rattle.farm_asks.specs.Questions.{Asking}
use Rattle.farm_machine.specs.Law.{opened}
use Rattle.farm_machine.specs.Step.{farm_rules}
use Rattle.farm_server.proofs.connection.ask.Goals as goal

pub returns-clause-once : goal.returns-clause-once
unfolding farm_rules
returns-clause-once g c =
    let P : Asking → Type 0 = λ asking. AsksInTurn farm_rules opened (g.K.Desk.stands c.args.desk.now) (g.K.Desk.stands c.ask.new.self) (asking ∷ []) (c.ask.result.reply ∷ []) in
    record {
      moment = c.now-moment.result;
      id = c.draw-id.result;
      moments = c.now-moment.ensures.told;
      ids = c.draw-id.ensures.told;
      asked = subst P c.new.ensures (AsksInTurn-one farm_rules opened (g.K.Desk.stands c.args.desk.now) (g.K.Desk.stands c.ask.new.self) c.new.result c.ask.result c.ask.ensures.asked);
      spent = omega (arith, c.ask.ensures.left);
    }
