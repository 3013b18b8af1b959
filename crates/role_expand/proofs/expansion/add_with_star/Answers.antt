use Rattle.std.proofs.lemmas.Bool.{both_ways}
use Rattle.role_expand.specs.declared.expansion.TheConstants.{MOST_SCOPES}
use Rattle.role_expand.proofs.GrowthLemmas.{gains_none}
use Rattle.role_expand.proofs.GivesLemmas.{result_same}
use Rattle.role_expand.proofs.expansion.add_with_star.Goals as goal

pub returns-then-not-satisfies : goal.returns-then-not-satisfies
returns-then-not-satisfies c = gains_none MOST_SCOPES _ _ (λ s h. absurd (both_ways _ c.if-not-satisfies.true (c.satisfies.ensures.meaning.1 h.0)))

pub returns : goal.returns
returns c = result_same MOST_SCOPES _ _ _ _ _ c.add_filled.ensures (λ s h. (c.satisfies.ensures.meaning.0 c.if-not-satisfies.false, h)) (λ s h. h.1)
