use Rattle.farm_laws.proofs.EndLemmas.{before-end}
use Rattle.farm_laws.proofs.tasks.a_change_comes_before_the_ends_of_claims.Goals as goal

pub returns : goal.returns
returns c = before-end
