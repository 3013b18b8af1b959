use Rattle.farm_machine.proofs.CrossingLemmas.{kept_send}
use Rattle.farm_machine.proofs.tables.farms_tables_cross_threads.Goals as goal

pub returns : goal.returns
returns c = record { sent = kept_send c.tables_cross_threads.ensures.sent }
