-- A cut keeps the rule.
use Rattle.std.proofs.Common.{arith}
use Rattle.shared_desk.proofs.Kept.{cuts}
use Rattle.shared_desk.proofs.steps.cut.Goals as goal

pub split_seat-requires : goal.split_seat-requires
split_seat-requires g c =
    let at = c.requires.at in
    (at.0, omega (arith, at.1), cuts g.O.Law.Machine.rules g.O.Law.Machine.start g.O.Object.state g.O.Object.holds c.args.hall.now.key.value c.args.seat.now.id c.args.seat.now.me.0 g.N.Portion.asks c.requires.rest.0 c.requires.asks)
