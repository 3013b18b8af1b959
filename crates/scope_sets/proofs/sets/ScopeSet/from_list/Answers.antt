use Rattle.scope_sets.proofs.OrderLemmas.{rises_from_list, keeps_from_list, adds_none_from_list}
use Rattle.scope_sets.proofs.sets.ScopeSet.from_list.Goals as goal

pub invariant_of-result : goal.invariant_of-result
invariant_of-result c = rises_from_list _ _ _ c.sort_unstable.ensures.permutation c.dedup.ensures.filtered c.sort_unstable.ensures.sorted

pub returns-clause-rising : goal.returns-clause-rising
returns-clause-rising c = invariant_of-result c

pub returns-clause-keeps : goal.returns-clause-keeps
returns-clause-keeps c = keeps_from_list _ _ _ c.sort_unstable.ensures.permutation c.dedup.ensures.filtered

pub returns-clause-adds_none : goal.returns-clause-adds_none
returns-clause-adds_none c = adds_none_from_list _ _ _ c.sort_unstable.ensures.permutation c.dedup.ensures.filtered
