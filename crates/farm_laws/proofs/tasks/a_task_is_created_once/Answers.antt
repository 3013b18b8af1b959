use Rattle.task_index.proofs.AdvanceLemmas.{advance-ids}
use Rattle.task_index.proofs.IdLemmas.{created-stands, created-refused, applied-ids}
use Rattle.farm_laws.proofs.tasks.a_task_is_created_once.Goals as goal

pub returns-clause-stands : goal.returns-clause-stands
returns-clause-stands c = created-stands

pub returns-clause-refused : goal.returns-clause-refused
returns-clause-refused c = created-refused

pub returns-clause-advanced : goal.returns-clause-advanced
returns-clause-advanced c = advance-ids

pub returns-clause-applied : goal.returns-clause-applied
returns-clause-applied c = applied-ids
