use Rattle.farm_core.proofs.CrossingLemmas.{bare_send}
use Rattle.farm_core.proofs.laws.bare_farms_cross_threads.Goals as goal

pub returns : goal.returns
returns c = record { sent = bare_send c.hooks_cross_threads.ensures.sent c.farms_tables_cross_threads.ensures.sent }
