use Rattle.std.proofs.Common.{take}
use Rattle.std.specs.List.{All}
use Rattle.scope_sets.specs.declared.scopes.TheConstants.{LONGEST_SCOPE}
use Rattle.role_expand.specs.Roles.{roles_data, HasRoleForm}
use Rattle.role_expand.proofs.refusals.first_bad_role.Given as goal

abbrev pub invariant-loop-place : goal.invariant-loop-place
invariant-loop-place l = All (HasRoleForm LONGEST_SCOPE) (take l.place (roles_data l.roles))
