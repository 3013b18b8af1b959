use Rattle.std.proofs.Common.{codes}
use Rattle.task_types.specs.Forms.{IsRoute}
use Rattle.task_defs.specs.Values.{IsTextList}
use Rattle.task_defs.proofs.FaultLemmas.{ok_one, err_one}
use Rattle.task_defs.proofs.stages.routes.Goals as goal

pub returns-in-Some : goal.returns-in-Some
returns-in-Some c =
    let found = rw c.in-Some.is at c.in_ok-routes.ensures in
    (ok_one (IsTextList 64 IsRoute) _ _ (codes "routes") c.get.ensures found.0, rw (← c.get.ensures) found.1)

pub returns-in-None : goal.returns-in-None
returns-in-None c =
    let ill = rw c.in-None.is at c.in_ok-routes.ensures in
    err_one 7 (IsTextList 64 IsRoute) _ _ (codes "routes") _ c.get.ensures ill c.at.ensures
