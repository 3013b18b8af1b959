use Rattle.std.proofs.Common.{◌≡◌, drop}
use Rattle.scope_sets.specs.Expressions.{some_holds, lacking, each_reduced}
use Rattle.scope_sets.proofs.ExpressionLemmas.{members_view, lacking_from, reduced_from}
use Rattle.scope_sets.proofs.expressions.+missing.Given as goal

abbrev pub decreases-missing : goal.decreases-missing
decreases-missing l = goal.size-missing l

abbrev pub invariant-loop-member : goal.invariant-loop-member
invariant-loop-member l = lacking l.set (members_view l.member-items) ≡ lacking_from l.set l.lacking.items l.member-items l.member-index

abbrev pub invariant-loop-member-2 : goal.invariant-loop-member-2
invariant-loop-member-2 l =
    (each_reduced l.set (members_view l.member-items) ≡ reduced_from l.set l.lacking.items l.member-items l.member-index)
    × (some_holds l.set (members_view l.member-items) ≡ some_holds l.set (members_view (drop l.member-index l.member-items)))
