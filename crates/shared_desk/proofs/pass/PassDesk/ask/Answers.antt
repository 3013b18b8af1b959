-- One turn at the shared desk is one ask of the pass.
use Rattle.std.proofs.Common.{subst}
use Rattle.shared_desk.specs.Standing.{Standing}
use Rattle.shared_desk.specs.Rule.{HasTurn}
use Rattle.shared_desk.proofs.Standings.{asked_by}
use Rattle.shared_desk.proofs.pass.PassDesk.ask.Goals as goal

pub returns-clause-asked : goal.returns-clause-asked
returns-clause-asked g c =
    let r = g.O.Law.Machine.rules in
    let turn = subst (λ (z : Standing g.row.O-Law-State.Denot g.row.O-Law-Entry.Denot). HasTurn r z c.args.question c.ask.result c.ask.new.self) c.self.view_is c.ask.ensures in
    asked_by r g.O.Law.Machine.start c.args.self.now c.ask.new.self c.args.question c.ask.result turn
