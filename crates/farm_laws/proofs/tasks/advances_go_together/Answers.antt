use Rattle.task_index.proofs.AdvanceLemmas.{advance-together}
use Rattle.farm_laws.proofs.tasks.advances_go_together.Goals as goal

pub returns : goal.returns
returns c = advance-together
