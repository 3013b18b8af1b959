use Rattle.task_index.proofs.AdvanceLemmas.{advance-stays}
use Rattle.task_index.proofs.IdLemmas.{applied-stays}
use Rattle.farm_laws.proofs.tasks.tasks_and_runs_stay.Goals as goal

pub returns-clause-advanced : goal.returns-clause-advanced
returns-clause-advanced c = advance-stays

pub returns-clause-applied : goal.returns-clause-applied
returns-clause-applied c = applied-stays
