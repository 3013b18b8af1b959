use Rattle.role_expand.proofs.RefusalLemmas.{refusal_is_one}
use Rattle.role_expand.proofs.laws.the_refusal_is_one.Goals as goal

pub returns : goal.returns
returns c = refusal_is_one
