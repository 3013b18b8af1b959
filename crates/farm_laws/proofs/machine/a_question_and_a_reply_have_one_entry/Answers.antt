use Rattle.farm_laws.proofs.StepLemmas.{HasOneEntry-farm}
use Rattle.farm_laws.proofs.machine.a_question_and_a_reply_have_one_entry.Goals as goal

pub returns : goal.returns
returns c = HasOneEntry-farm
