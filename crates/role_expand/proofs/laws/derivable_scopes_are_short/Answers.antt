use Rattle.role_expand.proofs.LengthLemmas.{Derivable-short}
use Rattle.role_expand.proofs.laws.derivable_scopes_are_short.Goals as goal

pub returns : goal.returns
returns c = λ longest roles start s accepted d. Derivable-short roles start accepted.acyclic s d
