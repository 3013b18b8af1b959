use Rattle.run_states.proofs.LaterLemmas.{RowsLater-refl, RowsLater-trans}
use Rattle.run_states.proofs.laws.later_goes_on.Goals as goal

pub returns-clause-same : goal.returns-clause-same
returns-clause-same c = RowsLater-refl

pub returns-clause-on : goal.returns-clause-on
returns-clause-on c = RowsLater-trans
