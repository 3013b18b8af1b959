use Rattle.std.proofs.Common.{◌≤◌, length}
use Rattle.role_expand.proofs.RankLemmas.{AreTopsFrom}
use Rattle.role_expand.proofs.ranks.tops_below.Given as goal

abbrev pub invariant-loop-at : goal.invariant-loop-at
invariant-loop-at l = (l.at ≤ length l.marks) × AreTopsFrom l.marks l.ranks l.at l.tops.items

abbrev pub decreases-loop-at : goal.decreases-loop-at
decreases-loop-at l = l.at
