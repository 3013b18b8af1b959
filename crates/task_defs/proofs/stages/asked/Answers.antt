use Rattle.std.proofs.Common.{codes, IsSome}
use Rattle.task_types.specs.Choices.{requires_of}
use Rattle.task_defs.specs.Values.{IsTextOf}
use Rattle.task_defs.proofs.FaultLemmas.{ok_one, err_one}
use Rattle.task_defs.proofs.stages.asked.Goals as goal

pub returns-in-Some : goal.returns-in-Some
returns-in-Some c =
    let found = c.in-Some.ensures in
    (ok_one (IsTextOf (λ t. IsSome (requires_of t))) _ _ (codes "requires") c.get.ensures found.0, rw (← c.get.ensures) found.1)

pub returns-in-None : goal.returns-in-None
returns-in-None c =
    let ill = c.in-None.ensures in
    err_one 6 (IsTextOf (λ t. IsSome (requires_of t))) _ _ (codes "requires") _ c.get.ensures ill c.at.ensures
