use Rattle.std.proofs.Common.{◌+◌, ◌≤◌, min, length}
use Rattle.role_expand.specs.Roles.{roles_data}
use Rattle.role_expand.specs.Levels.{zeros}
use Rattle.role_expand.proofs.LevelLemmas.{AreStepsBelow}
use Rattle.role_expand.proofs.cycles.steps_to.Given as goal

abbrev pub invariant-levels : goal.invariant-levels
invariant-levels l =
    AreStepsBelow (roles_data l.roles) l.target l.count l.steps.items l.level.items
    × (l.count + (zeros l.steps.items + min 1 (length l.level.items)) ≤ length l.roles + 2)

abbrev pub decreases-levels : goal.decreases-levels
decreases-levels l = zeros l.steps.items + min 1 (length l.level.items)
