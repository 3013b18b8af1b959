use Rattle.farm_laws.proofs.ServingLemmas.{advance-serves, applied-completed, rerun-serves}
use Rattle.farm_laws.proofs.tasks.what_is_served_stays.Goals as goal

pub returns-clause-completed : goal.returns-clause-completed
returns-clause-completed c = applied-completed

pub returns-clause-advanced : goal.returns-clause-advanced
returns-clause-advanced c = advance-serves

pub returns-clause-rerun : goal.returns-clause-rerun
returns-clause-rerun c = rerun-serves
