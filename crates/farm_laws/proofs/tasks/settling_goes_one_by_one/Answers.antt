use Rattle.task_index.proofs.ReadyLemmas.{settled-first, settled-idle, settled-none}
use Rattle.farm_laws.proofs.tasks.settling_goes_one_by_one.Goals as goal

pub returns-clause-first : goal.returns-clause-first
returns-clause-first c = settled-first

pub returns-clause-idle : goal.returns-clause-idle
returns-clause-idle c = settled-idle

pub returns-clause-none : goal.returns-clause-none
returns-clause-none c = settled-none
