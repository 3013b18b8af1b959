use Rattle.farm_laws.proofs.ClaimLawLemmas.{claimed-once}
use Rattle.farm_laws.proofs.RecordedClaimLemmas.{recorded-once}
use Rattle.farm_laws.proofs.machine.a_run_is_claimed_once.Goals as goal

pub returns-clause-since : goal.returns-clause-since
returns-clause-since c = claimed-once

pub returns-clause-recorded : goal.returns-clause-recorded
returns-clause-recorded c = recorded-once
