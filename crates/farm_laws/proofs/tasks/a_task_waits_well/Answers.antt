use Rattle.farm_rows.proofs.WaitLemmas.{waits-well}
use Rattle.farm_laws.proofs.tasks.a_task_waits_well.Goals as goal

pub returns : goal.returns
returns c = waits-well
