use Rattle.farm_text.proofs.OneMomentLemmas.{IsDateTime-one, IsMomentText-one}
use Rattle.farm_text.proofs.date_time.a_text_has_one_moment.Goals as goal

pub returns-clause-read : goal.returns-clause-read
returns-clause-read c = IsDateTime-one

pub returns-clause-written : goal.returns-clause-written
returns-clause-written c = IsMomentText-one
