use Rattle.farm_core.proofs.PlaceLemmas.{farm-damaged-one}
use Rattle.farm_core.proofs.laws.a_farm_is_damaged_at_one_place.Goals as goal

pub returns : goal.returns
returns c = farm-damaged-one c.a_record_is_of_one_change.ensures
