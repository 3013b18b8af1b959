use Rattle.std.proofs.Common.{arith}
use Rattle.task_index.proofs.RoomLemmas.{room-0}
use Rattle.task_index.proofs.place_lists.PlaceLists.new.Goals as goal

pub invariant_of-result : goal.invariant_of-result
invariant_of-result c = rw c.new.ensures.items (omega (arith, room-0))
