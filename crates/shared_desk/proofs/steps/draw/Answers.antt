-- A draw keeps the rule.
use Rattle.shared_desk.proofs.Kept.{draws}
use Rattle.shared_desk.proofs.steps.draw.Goals as goal

pub add_ticket-requires-clause-kept : goal.add_ticket-requires-clause-kept
add_ticket-requires-clause-kept g c = draws g.O.Law.Machine.rules g.O.Law.Machine.start g.O.Object.state g.O.Object.holds c.args.hall.now.key.value c.args.hall.now.table_id.slots c.args.seat.now.id c.args.seat.now.me c.requires.idle.0 c.requires.idle.1 c.requires.left
