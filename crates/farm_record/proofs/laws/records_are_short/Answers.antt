use Rattle.farm_record.proofs.LawLemmas.{record_short}
use Rattle.farm_record.proofs.laws.records_are_short.Goals as goal

pub returns : goal.returns
returns c = record_short
