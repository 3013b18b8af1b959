use Rattle.std.proofs.Common.{arith}
use Rattle.task_index.proofs.RoomLemmas.{room-0}
use Rattle.task_index.proofs.place_lists.kept.TaskPlaces.new.Goals as goal

pub invariant_of-result : goal.invariant_of-result
invariant_of-result c = (rw c.new.ensures.items (omega (arith, room-0)), rw c.new-2.ensures.items (omega (arith, room-0)))
