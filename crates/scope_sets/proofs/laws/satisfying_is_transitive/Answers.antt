use Rattle.scope_sets.proofs.LawLemmas.{Satisfies-trans}
use Rattle.scope_sets.proofs.laws.satisfying_is_transitive.Goals as goal

pub returns : goal.returns
returns c = Satisfies-trans
