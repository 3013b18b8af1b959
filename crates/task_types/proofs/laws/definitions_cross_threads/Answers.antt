use Rattle.task_types.proofs.CrossingLemmas.{def_send, def_sync}
use Rattle.task_types.proofs.laws.definitions_cross_threads.Goals as goal

pub returns-clause-sent : goal.returns-clause-sent
returns-clause-sent c = def_send (record { owned = c.sends.ensures.owned; leaving = λ k d w. tt }) (record { owned = c.sends-2.ensures.owned; leaving = λ k d w. tt })

pub returns-clause-shared : goal.returns-clause-shared
returns-clause-shared c = def_sync (record { shared = c.shares.ensures.shared }) (record { shared = c.shares-2.ensures.shared })
