use Rattle.task_groups.proofs.JoinLemmas.{rows-joined, scheduler-stays, scheduler-first, group-joined_other}
use Rattle.task_groups.proofs.laws.a_task_joins_its_group.Goals as goal

pub returns-clause-last : goal.returns-clause-last
returns-clause-last c = rows-joined

pub returns-clause-scheduler : goal.returns-clause-scheduler
returns-clause-scheduler c = scheduler-stays

pub returns-clause-first : goal.returns-clause-first
returns-clause-first c = scheduler-first

pub returns-clause-others : goal.returns-clause-others
returns-clause-others c = group-joined_other
