use Rattle.farm_text.proofs.DataLemmas.{IsJson-one}
use Rattle.farm_text.proofs.reading.a_text_is_of_one_document.Goals as goal

pub returns : goal.returns
returns c = IsJson-one
