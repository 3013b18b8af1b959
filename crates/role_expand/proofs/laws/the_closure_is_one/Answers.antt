use Rattle.role_expand.proofs.SetLemmas.{closure_is_one}
use Rattle.role_expand.proofs.laws.the_closure_is_one.Goals as goal

pub returns : goal.returns
returns c = closure_is_one
