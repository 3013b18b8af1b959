use Rattle.std.proofs.Common.{◌≤◌, length}
use Rattle.role_expand.proofs.order.Search.find_ends.Given as goal

abbrev pub invariant-loop-at : goal.invariant-loop-at
invariant-loop-at l = l.at ≤ length l.links

abbrev pub decreases-loop-at : goal.decreases-loop-at
decreases-loop-at l = l.at
