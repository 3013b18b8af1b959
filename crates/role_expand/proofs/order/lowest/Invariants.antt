use Rattle.std.proofs.Common.{◌≡◌, length}
use Rattle.role_expand.proofs.order.lowest.Given as goal

abbrev pub invariant-loop-at : goal.invariant-loop-at
invariant-loop-at l = length l.numbers ≡ length l.initial.numbers

abbrev pub decreases-loop-at : goal.decreases-loop-at
decreases-loop-at l = l.at
