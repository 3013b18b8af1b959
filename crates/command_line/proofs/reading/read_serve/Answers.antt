use Rattle.std.proofs.Common.{◌∙◌, ap, List, ℕ, Some, None, codes}
use Rattle.clap.specs.Words.{found_of, rows_of}
use Rattle.command_line.proofs.MatchLemmas.{value_met}
use Rattle.command_line.proofs.ServiceLemmas.{no_farm, serve_given}
use Rattle.command_line.proofs.SigningLemmas.{refuses}
use Rattle.command_line.proofs.reading.read_serve.Goals as goal

pub returns-in_default : goal.returns-in_default
returns-in_default c = refuses _ _ (no_farm (rows_of (found_of c.args.matches.now)) (value_met c.args.matches.now (codes "FARM") None c.in_default.ensures))

pub returns-in-Ok-read_service : goal.returns-in-Ok-read_service
returns-in-Ok-read_service c =
    serve_given (rows_of (found_of c.args.matches.now)) c.in-Ok.farm c.in-Ok-read_service.service
    (ap (λ (t : List ℕ). Some t) c.in-Ok.ensures ∙ value_met c.args.matches.now (codes "FARM") (Some c.in-Some.farm.now) c.in-Some.ensures) c.in-Ok-read_service.ensures
