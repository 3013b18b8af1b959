use Rattle.clap.specs.Words.{found_of, rows_of}
use Rattle.command_line.proofs.SigningLemmas.{all_formed, off_port, off_stamp, refuses}
use Rattle.command_line.proofs.signing.read_signing.Goals as goal

pub returns-in_default-port_of : goal.returns-in_default-port_of
returns-in_default-port_of c = refuses _ _ (off_port (rows_of (found_of c.args.matches.now)) c.value.result.now c.value.ensures c.in_default-port_of.ensures)

pub returns-in-Some-off_stamp : goal.returns-in-Some-off_stamp
returns-in-Some-off_stamp c = refuses _ _ (off_stamp (rows_of (found_of c.args.matches.now)) c.in-Some-off_stamp.ensures)

pub returns-in-Ok : goal.returns-in-Ok
returns-in-Ok c =
    all_formed (rows_of (found_of c.args.matches.now)) c.value.result.now c.in-Some-port_of.port c.in-Ok.signing
    c.in_default.ensures c.value.ensures c.in-Some-port_of.ensures.0 c.in-Some-port_of.ensures.1 c.in_default-off_stamp.ensures c.in-Ok.ensures
