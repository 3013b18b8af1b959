use Rattle.std.proofs.Common.{◌≡◌, take, drop}
use Rattle.task_index.specs.Picks.{are_picks}
use Rattle.task_index.specs.Left.{left}
use Rattle.task_index.proofs.picks.are_picks.Given as goal

abbrev pub invariant-loop-number : goal.invariant-loop-number
invariant-loop-number l = are_picks l.queue l.names l.rows ≡ are_picks l.queue (drop l.number l.names) (left (take l.number l.names) l.rows)
