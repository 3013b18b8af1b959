use Rattle.farm_machine.proofs.VerdictLemmas.{IsVerdict-some, IsVerdict-exists}
use Rattle.farm_laws.proofs.machine.each_call_has_a_verdict.Goals as goal

pub returns : goal.returns
returns c = record { exists = IsVerdict-exists; found = IsVerdict-some }
