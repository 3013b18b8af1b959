use Rattle.farm_laws.proofs.StartLemmas.{starts-due, starts-kind, starts-schedule, starts-settled, once-advance, once-applied}
use Rattle.farm_laws.proofs.tasks.a_task_is_scheduled_once.Goals as goal

pub returns-clause-due : goal.returns-clause-due
returns-clause-due c = starts-due

pub returns-clause-changed : goal.returns-clause-changed
returns-clause-changed c = starts-kind

pub returns-clause-scheduled : goal.returns-clause-scheduled
returns-clause-scheduled c = starts-schedule

pub returns-clause-settled : goal.returns-clause-settled
returns-clause-settled c = starts-settled

pub returns-clause-advanced : goal.returns-clause-advanced
returns-clause-advanced c = once-advance

pub returns-clause-applied : goal.returns-clause-applied
returns-clause-applied c = once-applied
