use Rattle.api_routes.proofs.SaidLemmas.{said-call}
use Rattle.api_routes.proofs.laws.a_called_task_is_said.Goals as goal

pub returns : goal.returns
returns c = said-call
