use Rattle.farm_laws.proofs.OnceLemmas.{created-once}
use Rattle.farm_laws.proofs.machine.a_task_is_created_once.Goals as goal

pub returns : goal.returns
returns c = created-once
