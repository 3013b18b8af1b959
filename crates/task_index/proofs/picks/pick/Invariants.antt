use Rattle.std.proofs.Common.{◌≡◌, take}
use Rattle.std.specs.Prelude.{option_copied}
use Rattle.task_index.specs.Picks.{pick}
use Rattle.task_index.specs.Left.{left}
use Rattle.task_index.proofs.picks.pick.Given as goal

abbrev pub invariant-loop-row : goal.invariant-loop-row
invariant-loop-row l = option_copied l.best ≡ pick l.queue (left l.taken (take l.row-index l.rows))
