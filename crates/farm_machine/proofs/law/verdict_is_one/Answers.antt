use Rattle.farm_machine.proofs.VerdictLemmas.{IsVerdict-one}
use Rattle.farm_machine.proofs.law.verdict_is_one.Goals as goal

pub returns : goal.returns
returns c = IsVerdict-one
