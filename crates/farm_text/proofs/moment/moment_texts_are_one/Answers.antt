use Rattle.farm_text.proofs.MomentLemmas.{IsMomentText-one}
use Rattle.farm_text.proofs.moment.moment_texts_are_one.Goals as goal

pub returns : goal.returns
returns c = IsMomentText-one
