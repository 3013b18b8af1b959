use Rattle.role_expand.proofs.ExistenceLemmas.{closure_or_too_many}
use Rattle.role_expand.proofs.laws.a_start_list_has_a_closure_or_too_many.Goals as goal

pub returns : goal.returns
returns c = closure_or_too_many
