use Rattle.std.proofs.Common.{ap, List, ℕ, [], Option, Some, None}
use Rattle.std.specs.Prelude.{unwrap_or}
use Rattle.command_line.proofs.MatchLemmas.{value_met}
use Rattle.command_line.proofs.signing.value.Goals as goal

pub returns-in-Some : goal.returns-in-Some
returns-in-Some c = ap (λ (o : Option (List ℕ)). unwrap_or o []) (value_met c.args.matches.now c.args.name.now (Some c.in-Some.value.now) c.in-Some.ensures)

pub returns-in-None : goal.returns-in-None
returns-in-None c = ap (λ (o : Option (List ℕ)). unwrap_or o []) (value_met c.args.matches.now c.args.name.now None c.in-None.ensures)
