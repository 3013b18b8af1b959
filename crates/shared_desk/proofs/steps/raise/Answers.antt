-- A raise keeps the rule: the history goes on by the ask's entries.
use Rattle.shared_desk.proofs.Raising.{raises}
use Rattle.shared_desk.proofs.steps.raise.Goals as goal

pub add_call-requires-clause-kept : goal.add_call-requires-clause-kept
add_call-requires-clause-kept g c = raises g.O.Law.Machine.rules g.O.Law.Machine.start g.O.Object.state g.O.Object.holds c.args.hall.now.key.value c.args.hall.now.table_id.slots c.args.seat.now.id c.args.seat.now.me g.M.Asked.asked c.requires.made c.requires.at.2
