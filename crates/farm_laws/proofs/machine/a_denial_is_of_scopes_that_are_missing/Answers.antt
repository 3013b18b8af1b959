use Rattle.farm_laws.proofs.DenialLemmas.{denies-exactly}
use Rattle.farm_laws.proofs.machine.a_denial_is_of_scopes_that_are_missing.Goals as goal

pub returns : goal.returns
returns c = denies-exactly
