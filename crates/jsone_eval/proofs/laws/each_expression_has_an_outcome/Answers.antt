use Rattle.jsone_eval.proofs.SomeValue.{some_outcome}
use Rattle.jsone_eval.proofs.laws.each_expression_has_an_outcome.Goals as goal

pub returns : goal.returns
returns c = some_outcome
