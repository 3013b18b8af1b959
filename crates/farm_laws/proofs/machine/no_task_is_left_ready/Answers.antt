use Rattle.farm_laws.proofs.ReadyLawLemmas.{entries-none}
use Rattle.farm_laws.proofs.machine.no_task_is_left_ready.Goals as goal

pub returns : goal.returns
returns c = entries-none
