use Rattle.farm_core.proofs.CrossingLemmas.{farm_send}
use Rattle.farm_core.proofs.laws.farms_cross_threads.Goals as goal

pub returns : goal.returns
returns g c = record { sent = farm_send _ g.D.Disk c.type_bounds.send-D c.hooks_cross_threads.ensures.sent c.farms_tables_cross_threads.ensures.sent }
