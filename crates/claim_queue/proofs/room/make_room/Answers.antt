use Rattle.std.proofs.Common.{refl, arith}
use Rattle.claim_queue.proofs.room.make_room.Goals as goal

pub returns-in_err-make_turns-clause-places : goal.returns-in_err-make_turns-clause-places
returns-in_err-make_turns-clause-places g c = (omega arith, λ row lt. refl)
