use Rattle.std.proofs.Common.{◌≡◌, ◌++◌, ◌-◌, length}
use Rattle.task_index.specs.Picks.{picks}
use Rattle.task_index.specs.Left.{left}
use Rattle.task_index.specs.Queues.{name_of, AreLeft}
use Rattle.task_index.proofs.queues.walks.firsts_counted.Given as goal

-- those that were picked are given, and those that are still to be picked make the whole
abbrev pub invariant-turns : goal.invariant-turns
invariant-turns g l =
    (l.walk.name ≡ name_of l.queue) × AreLeft l.names.items l.walk.left l.rows
    × (l.names.items ++ picks (l.most - length l.names.items) l.queue (left l.names.items l.rows) ≡ picks l.most l.queue l.rows)

abbrev pub decreases-turns : goal.decreases-turns
decreases-turns g l = l.most - length l.names.items
