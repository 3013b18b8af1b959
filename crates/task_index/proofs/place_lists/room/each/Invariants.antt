use Rattle.std.proofs.Common.{map, take}
use Rattle.std.specs.List.{AllZip}
use Rattle.task_index.specs.declared.lists.TaskList.TheVariants.{Dependants}
use Rattle.task_index.specs.Plans.{HasRoomOn}
use Rattle.task_index.proofs.place_lists.room.each.Given as goal

-- room on the lists so far
abbrev pub invariant-loop-id : goal.invariant-loop-id
invariant-loop-id l = AllZip (HasRoomOn l.rows) (map Dependants (take l.id-index l.ids)) l.spares.items
