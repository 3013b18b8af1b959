-- A merge keeps the rule.
use Rattle.std.proofs.Common.{arith}
use Rattle.shared_desk.proofs.Kept.{merges}
use Rattle.shared_desk.proofs.steps.merge.Goals as goal

pub join_seat-requires : goal.join_seat-requires
join_seat-requires g c =
    let at = c.requires.at in
    (at.0.0, at.1, c.requires.other.1, omega (arith, at.0.1), merges g.O.Law.Machine.rules g.O.Law.Machine.start g.O.Object.state g.O.Object.holds c.args.hall.now.key.value c.args.seat.now.id c.args.seat.now.me.0 c.args.other.id c.args.other.me.0 c.requires.rest.0 c.requires.other.0)
