use Rattle.role_expand.proofs.AcceptanceLemmas.{accepted_or_refused}
use Rattle.role_expand.proofs.laws.a_list_is_accepted_or_refused.Goals as goal

pub returns : goal.returns
returns c = λ longest roles neither. accepted_or_refused roles longest neither.0 neither.1 neither.2 neither.3
