use Rattle.std.proofs.Common.{◌∙◌, ap, List, ℕ, Option, Some, None, codes}
use Rattle.command_line.specs.Service.{connections_said}
use Rattle.command_line.proofs.MatchLemmas.{value_met}
use Rattle.command_line.proofs.ServiceLemmas.{number_said}
use Rattle.command_line.proofs.service.connections.Goals as goal

pub returns-in-Some : goal.returns-in-Some
returns-in-Some c =
    number_said 1 1000000 1000000 c.in-Some.text.now _ c.connections_of.ensures
    ∙ ap (λ (o : Option (List ℕ)). connections_said o) (value_met c.args.matches.now (codes "connections") (Some c.in-Some.text.now) c.in-Some.ensures)

pub returns-in-None : goal.returns-in-None
returns-in-None c = ap (λ (o : Option (List ℕ)). connections_said o) (value_met c.args.matches.now (codes "connections") None c.in-None.ensures)
