use Rattle.run_states.proofs.ServeLemmas.{completed-stays, serves-claimed, serves-reclaimed, serves-resolved, serves-expired, serves-exceeded, serves-canceled, serves-again}
use Rattle.run_states.proofs.laws.what_is_served_stays.Goals as goal

pub returns-clause-later : goal.returns-clause-later
returns-clause-later c = completed-stays

pub returns-clause-claimed : goal.returns-clause-claimed
returns-clause-claimed c = serves-claimed

pub returns-clause-reclaimed : goal.returns-clause-reclaimed
returns-clause-reclaimed c = serves-reclaimed

pub returns-clause-resolved : goal.returns-clause-resolved
returns-clause-resolved c = serves-resolved

pub returns-clause-expired : goal.returns-clause-expired
returns-clause-expired c = serves-expired

pub returns-clause-exceeded : goal.returns-clause-exceeded
returns-clause-exceeded c = serves-exceeded

pub returns-clause-canceled : goal.returns-clause-canceled
returns-clause-canceled c = serves-canceled

pub returns-clause-rerun : goal.returns-clause-rerun
returns-clause-rerun c = serves-again
