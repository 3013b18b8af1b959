use Rattle.std.proofs.Common.{codes, IsSome}
use Rattle.task_types.specs.Choices.{priority_of}
use Rattle.task_defs.specs.Values.{IsTextOf}
use Rattle.task_defs.proofs.FaultLemmas.{ok_one, err_one}
use Rattle.task_defs.proofs.stages.priority.Goals as goal

pub returns-in-Some : goal.returns-in-Some
returns-in-Some c =
    let found = c.in-Some.ensures in
    (ok_one (IsTextOf (λ t. IsSome (priority_of t))) _ _ (codes "priority") c.get.ensures found.0, rw (← c.get.ensures) found.1)

pub returns-in-None : goal.returns-in-None
returns-in-None c =
    let ill = c.in-None.ensures in
    err_one 8 (IsTextOf (λ t. IsSome (priority_of t))) _ _ (codes "priority") _ c.get.ensures ill c.at.ensures
