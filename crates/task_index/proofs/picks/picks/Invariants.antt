use Rattle.std.proofs.Common.{◌≡◌, ◌++◌, ◌-◌, length}
use Rattle.task_index.specs.Picks.{picks}
use Rattle.task_index.specs.Left.{left}
use Rattle.task_index.proofs.picks.picks.Given as goal

-- those that are still to be picked make the whole
abbrev pub invariant-turns : goal.invariant-turns
invariant-turns l = l.names.items ++ picks (l.most - length l.names.items) l.queue (left l.names.items l.rows) ≡ picks l.most l.queue l.rows

abbrev pub decreases-turns : goal.decreases-turns
decreases-turns l = l.most - length l.names.items
