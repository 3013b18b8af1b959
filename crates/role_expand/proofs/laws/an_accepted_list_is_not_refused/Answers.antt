use Rattle.role_expand.proofs.RefusalLemmas.{accepted_not_refused}
use Rattle.role_expand.proofs.laws.an_accepted_list_is_not_refused.Goals as goal

pub returns : goal.returns
returns c = accepted_not_refused
