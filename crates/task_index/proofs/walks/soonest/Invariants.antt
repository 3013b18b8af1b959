use Rattle.std.proofs.Common.{◌≡◌, min, take}
use Rattle.std.specs.List.{reduce}
use Rattle.task_index.specs.Due.{all_due_moments}
use Rattle.task_index.proofs.walks.soonest.Given as goal

abbrev pub invariant-loop-row : goal.invariant-loop-row
invariant-loop-row l = l.soonest ≡ reduce min (all_due_moments (take l.row-index l.rows))
