use Rattle.std.proofs.Common.{refl, arith}
use Rattle.claim_queue.proofs.room.make_heap.Goals as goal

pub returns-in_err-reserve-clause-places : goal.returns-in_err-reserve-clause-places
returns-in_err-reserve-clause-places g c = (omega arith, λ row lt. refl)

pub returns-in_err-reserve-2-clause-places : goal.returns-in_err-reserve-2-clause-places
returns-in_err-reserve-2-clause-places g c = (omega arith, λ row lt. refl)
