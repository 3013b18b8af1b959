use Rattle.role_expand.proofs.SetLemmas.{closure_or_more}
use Rattle.role_expand.proofs.laws.a_closure_is_not_too_many.Goals as goal

pub returns : goal.returns
returns c = closure_or_more
