use Rattle.farm_text.proofs.DateTimeLemmas.{IsDateTime-written}
use Rattle.farm_text.proofs.date_time.written_moments_are_read_back.Goals as goal

pub returns : goal.returns
returns c = IsDateTime-written
