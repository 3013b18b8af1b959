use Rattle.task_index.proofs.ReadyLemmas.{settled-stays, settled-due}
use Rattle.farm_laws.proofs.tasks.settling_takes_nothing_away.Goals as goal

pub returns-clause-stays : goal.returns-clause-stays
returns-clause-stays c = settled-stays

pub returns-clause-due : goal.returns-clause-due
returns-clause-due c = settled-due
