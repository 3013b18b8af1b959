-- nothing changes while the caller waits
use Rattle.std.proofs.Common.{◌≡◌}
use Rattle.shared_desk.proofs.turn.await_turn.Given as goal

abbrev pub invariant-loop : goal.invariant-loop
invariant-loop g l = (l.seat.table_id ≡ l.initial.seat.table_id) × (l.seat.me ≡ l.initial.seat.me)
