use Rattle.farm_machine.proofs.ReplayLemmas.{records-restore, kept-follows, front-replays}
use Rattle.farm_laws.proofs.machine.records_restore.Goals as goal

pub returns-clause-restored : goal.returns-clause-restored
returns-clause-restored c = records-restore

pub returns-clause-followed : goal.returns-clause-followed
returns-clause-followed c = kept-follows

pub returns-clause-cut_short : goal.returns-clause-cut_short
returns-clause-cut_short c = front-replays
