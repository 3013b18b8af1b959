use Rattle.farm_laws.proofs.RecordedEndLemmas.{recorded-ends, reported-once}
use Rattle.farm_laws.proofs.RunLawLemmas.{ends-once}
use Rattle.farm_laws.proofs.machine.a_run_ends_once.Goals as goal

pub returns-clause-since : goal.returns-clause-since
returns-clause-since c = ends-once

pub returns-clause-recorded : goal.returns-clause-recorded
returns-clause-recorded c = recorded-ends

pub returns-clause-reported : goal.returns-clause-reported
returns-clause-reported c = reported-once
