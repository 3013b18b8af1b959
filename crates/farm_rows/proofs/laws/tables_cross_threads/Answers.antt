use Rattle.farm_rows.proofs.CrossingLemmas.{tables_send}
use Rattle.farm_rows.proofs.laws.tables_cross_threads.Goals as goal

pub returns : goal.returns
returns c = record { sent = tables_send c.rows_cross_threads.ensures.sent }
