use Rattle.run_states.proofs.ServeLemmas.{serves-scheduled, unscheduled-serves}
use Rattle.run_states.proofs.laws.a_schedule_serves_nobody.Goals as goal

pub returns-clause-same : goal.returns-clause-same
returns-clause-same c = serves-scheduled

pub returns-clause-none : goal.returns-clause-none
returns-clause-none c = unscheduled-serves
