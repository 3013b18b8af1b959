use Rattle.std.proofs.Common.{◌≡◌, [], ◌∷◌, ◌++◌, drop, length, map, take}
use Rattle.std.specs.List.{AllZip}
use Rattle.std.specs.Vec.Iter.{into_iter_items, into_iter_len}
use Rattle.task_index.specs.declared.lists.TaskList.TheVariants.{Dependants}
use Rattle.task_index.specs.Plans.{HasRoomOn}
use Rattle.task_index.specs.PlaceLists.{AreGrouped, AreWaitedSoFar}
use Rattle.task_index.proofs.place_lists.coming.wait_for_each.Given as goal

-- it is known to wait for those so far, and there is room on the lists of the others
abbrev pub invariant-loop-spare : goal.invariant-loop-spare
invariant-loop-spare l = record {
  so_far : AreWaitedSoFar l.lists l.rows l.row (take l.count l.named);
  grouped : AreGrouped l.lists (l.rows ++ l.row ∷ []);
  left : AllZip (HasRoomOn l.rows) (map Dependants (drop l.count l.named)) (into_iter_items l.spare-iterator);
  long : into_iter_len l.spare-iterator ≡ length (into_iter_items l.spare-iterator);
}
