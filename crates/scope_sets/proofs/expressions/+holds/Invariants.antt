use Rattle.std.proofs.Common.{◌≡◌, drop}
use Rattle.scope_sets.specs.Expressions.{view, holds, all_hold, some_holds}
use Rattle.scope_sets.proofs.ExpressionLemmas.{members_view}
use Rattle.scope_sets.proofs.expressions.+holds.Given as goal

abbrev pub decreases-holds : goal.decreases-holds
decreases-holds l = goal.size-holds l

abbrev pub invariant-loop-member : goal.invariant-loop-member
invariant-loop-member l = holds l.set (view l.expression) ≡ all_hold l.set (members_view (drop l.member-index l.member-items))

abbrev pub invariant-loop-member-2 : goal.invariant-loop-member-2
invariant-loop-member-2 l = holds l.set (view l.expression) ≡ some_holds l.set (members_view (drop l.member-index l.member-items))
