use Rattle.std.proofs.Common.{length, ◌-◌}
use Rattle.disk_journal.specs.Following.{Reaches}
use Rattle.disk_journal.proofs.follow.follow.Given as goal

abbrev pub invariant-loop-at : goal.invariant-loop-at
invariant-loop-at l = Reaches l.file l.spans.items l.at

abbrev pub decreases-loop-at : goal.decreases-loop-at
decreases-loop-at l = length l.file - l.at
