use Rattle.role_expand.proofs.StarLemmas.{Derivable-plain}
use Rattle.role_expand.proofs.laws.no_derivable_scope_ends_with_two_stars.Goals as goal

pub returns : goal.returns
returns c = Derivable-plain
