use Rattle.run_states.proofs.LaterLemmas.{scheduled-later, claimed-later, reclaimed-later, resolved-later, expired-later, exceeded-later, canceled-later, again-later}
use Rattle.run_states.proofs.laws.runs_stay.Goals as goal

pub returns-clause-scheduled : goal.returns-clause-scheduled
returns-clause-scheduled c = scheduled-later

pub returns-clause-claimed : goal.returns-clause-claimed
returns-clause-claimed c = claimed-later

pub returns-clause-reclaimed : goal.returns-clause-reclaimed
returns-clause-reclaimed c = reclaimed-later

pub returns-clause-resolved : goal.returns-clause-resolved
returns-clause-resolved c = resolved-later

pub returns-clause-expired : goal.returns-clause-expired
returns-clause-expired c = expired-later

pub returns-clause-exceeded : goal.returns-clause-exceeded
returns-clause-exceeded c = exceeded-later

pub returns-clause-canceled : goal.returns-clause-canceled
returns-clause-canceled c = canceled-later

pub returns-clause-rerun : goal.returns-clause-rerun
returns-clause-rerun c = again-later
