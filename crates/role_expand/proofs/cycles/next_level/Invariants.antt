use Rattle.role_expand.specs.Roles.{roles_data}
use Rattle.role_expand.specs.Levels.{IsNextLevel}
use Rattle.role_expand.proofs.cycles.next_level.Given as goal

abbrev pub invariant-loop-from : goal.invariant-loop-from
invariant-loop-from l = IsNextLevel (roles_data l.roles) l.level l.count l.from l.initial.steps.items l.steps.items l.next.items
