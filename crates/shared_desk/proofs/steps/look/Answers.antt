-- A look keeps the rule, and takes the object at the caller's turn.
use Rattle.std.proofs.Common.{arith}
use Rattle.shared_desk.proofs.Kept.{looks}
use Rattle.shared_desk.proofs.steps.look.Goals as goal

pub load-requires : goal.load-requires
load-requires g c =
    let at = c.requires.at in
    (at.0, omega (arith, at.1), looks g.O.Law.Machine.rules g.O.Law.Machine.start g.O.Object.state g.O.Object.holds c.args.hall.now.key.value c.args.hall.now.table_id.slots c.args.seat.now.id c.args.seat.now.me c.args.ticket c.requires.waits.0 c.requires.waits.1)
