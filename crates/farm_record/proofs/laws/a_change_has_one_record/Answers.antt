use Rattle.farm_record.proofs.LawLemmas.{record_one}
use Rattle.farm_record.proofs.laws.a_change_has_one_record.Goals as goal

pub returns : goal.returns
returns c = record_one c.the_full_form_is_one.ensures
