use Rattle.jsone_eval.proofs.OneValue.{one_outcome}
use Rattle.jsone_eval.proofs.laws.the_outcome_is_one.Goals as goal

pub returns : goal.returns
returns c = one_outcome
