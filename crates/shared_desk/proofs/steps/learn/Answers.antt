-- A look at the history keeps the rule.
use Rattle.std.proofs.Common.{arith}
use Rattle.shared_desk.proofs.Kept.{learns}
use Rattle.shared_desk.proofs.steps.learn.Goals as goal

pub load-requires : goal.load-requires
load-requires g c =
    let at = c.requires.at in
    (at.0, omega (arith, at.1), learns g.O.Law.Machine.rules g.O.Law.Machine.start g.O.Object.state g.O.Object.holds c.args.hall.now.key.value c.args.hall.now.table_id.slots c.args.seat.now.id c.args.seat.now.me c.requires.merged.1.0 c.requires.merged.1.1 c.requires.merged.0)
