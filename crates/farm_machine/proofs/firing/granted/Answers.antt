-- What refuses the task is what comes of it; where nothing does, the task is.
use Rattle.std.proofs.Common.{Option, subst}
use Rattle.farm_asks.specs.declared.reply.Answer.{Answer}
use Rattle.farm_machine.specs.Firings.{fired_by}
use Rattle.farm_machine.proofs.FiringLemmas.{IsGranted}
use Rattle.farm_machine.proofs.firing.granted.Goals as goal

pub returns-in-Some : goal.returns-in-Some
returns-in-Some c =
    subst (λ (a : Option Answer). IsGranted c.args.at.now.state.config c.args.name.now c.args.creation (fired_by c.args.creation a)) c.in-Some.is c.in-Ok.ensures

pub returns-in-None : goal.returns-in-None
returns-in-None c =
    subst (λ (a : Option Answer). IsGranted c.args.at.now.state.config c.args.name.now c.args.creation (fired_by c.args.creation a)) c.in-None.is c.in-Ok.ensures
