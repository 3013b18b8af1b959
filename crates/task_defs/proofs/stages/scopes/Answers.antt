use Rattle.std.proofs.Common.{codes}
use Rattle.task_defs.specs.Values.{IsTextList, IsScope}
use Rattle.task_defs.proofs.FaultLemmas.{ok_one, err_one}
use Rattle.task_defs.proofs.stages.scopes.Goals as goal

pub returns-in-Some : goal.returns-in-Some
returns-in-Some c =
    let found = rw c.in-Some.is at c.in_ok-scopes.ensures in
    (ok_one (IsTextList 1000 IsScope) _ _ (codes "scopes") c.get.ensures found.0, rw (← c.get.ensures) found.1)

pub returns-in-None : goal.returns-in-None
returns-in-None c =
    let ill = rw c.in-None.is at c.in_ok-scopes.ensures in
    err_one 13 (IsTextList 1000 IsScope) _ _ (codes "scopes") _ c.get.ensures ill c.at.ensures
