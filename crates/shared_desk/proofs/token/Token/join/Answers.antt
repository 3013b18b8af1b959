-- Both callers' history and calls are there after a join.
use Rattle.std.proofs.Common.{subst}
use Rattle.shared_desk.specs.Standing.{Standing, AreJoined}
use Rattle.shared_desk.specs.Rule.{standing}
use Rattle.shared_desk.proofs.Standings.{joined, joined_legal}
use Rattle.shared_desk.proofs.token.Token.join.Goals as goal

pub returns-clause-joined : goal.returns-clause-joined
returns-clause-joined g c =
    let after = standing g.O.Object.state c.take_in.new.seat.table_id c.take_in.new.seat.me.0 in
    subst (λ (z : Standing g.row.O-Law-State.Denot g.row.O-Law-Entry.Denot × Standing g.row.O-Law-State.Denot g.row.O-Law-Entry.Denot). AreJoined z.0 z.1 after) (λ i. (c.self.view_is i, c.other.view_is i))
    (joined g.O.Law.Machine.rules g.O.Object.state c.self.inside.seat.table_id c.other.inside.seat.table_id c.take_in.new.seat.table_id c.self.inside.seat.me.0 c.other.inside.seat.me.0 c.take_in.new.seat.me c.take_in.ensures.at c.take_in.ensures.learned)

pub returns-clause-legal : goal.returns-clause-legal
returns-clause-legal g c =
    let first = c.self.invariant.0.2 in
    joined_legal g.O.Law.Machine.rules g.O.Object.state c.self.inside.seat.me.0 c.other.inside.seat.me.0 c.take_in.new.seat.me first.0 first.1 c.take_in.ensures.learned
