use Rattle.task_index.proofs.AdvanceLemmas.{advance-ready}
use Rattle.task_index.proofs.IdLemmas.{applied-none}
use Rattle.farm_laws.proofs.tasks.no_task_is_ready.Goals as goal

pub returns-clause-advanced : goal.returns-clause-advanced
returns-clause-advanced c = advance-ready

pub returns-clause-applied : goal.returns-clause-applied
returns-clause-applied c = applied-none
