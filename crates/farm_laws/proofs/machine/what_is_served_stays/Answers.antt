use Rattle.farm_laws.proofs.ServedLemmas.{served-for-good}
use Rattle.farm_laws.proofs.machine.what_is_served_stays.Goals as goal

pub returns : goal.returns
returns c = served-for-good
