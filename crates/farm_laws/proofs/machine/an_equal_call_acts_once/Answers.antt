use Rattle.farm_laws.proofs.OnceLemmas.{created-stands, answers-again}
use Rattle.farm_laws.proofs.SoundLemmas.{recorded-stands}
use Rattle.farm_laws.proofs.machine.an_equal_call_acts_once.Goals as goal

pub returns-clause-created : goal.returns-clause-created
returns-clause-created c = created-stands

pub returns-clause-recorded : goal.returns-clause-recorded
returns-clause-recorded c = recorded-stands

pub returns-clause-again : goal.returns-clause-again
returns-clause-again c = answers-again
