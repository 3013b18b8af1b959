use Rattle.clap.specs.Words.{found_of, rows_of}
use Rattle.command_line.proofs.ServiceLemmas.{both_numbers, no_connections, no_workers}
use Rattle.command_line.proofs.SigningLemmas.{refuses}
use Rattle.command_line.proofs.service.read_service.Goals as goal

pub returns-in_default : goal.returns-in_default
returns-in_default c = refuses _ _ (no_workers (rows_of (found_of c.args.matches.now)) c.in_default.ensures)

pub returns-in_default-connections : goal.returns-in_default-connections
returns-in_default-connections c =
    refuses _ _ (no_connections (rows_of (found_of c.args.matches.now)) c.in-Some.workers c.in-Some.ensures c.in_default-connections.ensures)

pub returns-in-Ok : goal.returns-in-Ok
returns-in-Ok c =
    both_numbers (rows_of (found_of c.args.matches.now)) c.in-Some.workers c.in-Some-connections.connections c.in-Ok.service c.in-Some.ensures c.in-Some-connections.ensures c.in-Ok.ensures
