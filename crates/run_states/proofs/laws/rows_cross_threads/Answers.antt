use Rattle.run_states.proofs.CrossingLemmas.{row_send}
use Rattle.run_states.proofs.laws.rows_cross_threads.Goals as goal

pub returns : goal.returns
returns c = record { sent = row_send c.definitions_cross_threads.ensures.sent c.definitions_cross_threads.ensures.shared }
