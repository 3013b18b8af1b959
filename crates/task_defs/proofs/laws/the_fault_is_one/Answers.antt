use Rattle.task_defs.specs.Definitions.{rules}
use Rattle.task_defs.proofs.OneLemmas.{fault_one, no_fault}
use Rattle.task_defs.proofs.laws.the_fault_is_one.Goals as goal

pub returns-clause-one : goal.returns-clause-one
returns-clause-one c = λ d id fault other. fault_one (rules d id) fault other

pub returns-clause-none : goal.returns-clause-none
returns-clause-none c = λ d id def fault said. no_fault (rules d id) fault said.sound
