use Rattle.std.proofs.Common.{codes}
use Rattle.task_defs.specs.Values.{IsRetries}
use Rattle.task_defs.proofs.FaultLemmas.{ok_one, err_one}
use Rattle.task_defs.proofs.stages.retries.Goals as goal

pub returns-in-Some : goal.returns-in-Some
returns-in-Some c =
    let found = c.in-Some.ensures in
    (ok_one (IsRetries) _ _ (codes "retries") c.get.ensures found.0, rw (← c.get.ensures) found.1)

pub returns-in-None : goal.returns-in-None
returns-in-None c =
    let ill = c.in-None.ensures in
    err_one 9 (IsRetries) _ _ (codes "retries") _ c.get.ensures ill c.at.ensures
