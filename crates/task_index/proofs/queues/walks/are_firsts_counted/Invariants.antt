use Rattle.std.proofs.Common.{◌≡◌, take, drop}
use Rattle.task_types.specs.declared.names.TaskQueue.{TaskQueue}
use Rattle.task_index.specs.Picks.{are_picks}
use Rattle.task_index.specs.Left.{left}
use Rattle.task_index.specs.Queues.{name_of, AreLeft}
use Rattle.task_index.proofs.queues.walks.are_firsts_counted.Given as goal

-- those that were named are given, and the others are still to be picks
abbrev pub invariant-loop-name : goal.invariant-loop-name
invariant-loop-name g l =
    (l.walk.name ≡ l.queue) × AreLeft (take l.name-index l.names) l.walk.left l.rows
    × ((named : TaskQueue) → l.queue ≡ name_of named → are_picks named l.names l.rows ≡ are_picks named (drop l.name-index l.names) (left (take l.name-index l.names) l.rows))
