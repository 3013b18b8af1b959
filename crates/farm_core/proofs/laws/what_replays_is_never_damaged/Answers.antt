use Rattle.farm_core.proofs.OpenLemmas.{within-sound}
use Rattle.farm_core.proofs.laws.what_replays_is_never_damaged.Goals as goal

pub returns : goal.returns
returns c = within-sound c.a_record_is_of_one_change.ensures
