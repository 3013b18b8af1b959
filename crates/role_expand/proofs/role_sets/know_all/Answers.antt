use Rattle.scope_sets.specs.declared.scopes.TheConstants.{LONGEST_SCOPE}
use Rattle.role_expand.specs.Roles.{HasRoleForm}
use Rattle.role_expand.proofs.SetLemmas.{form_of_next}
use Rattle.role_expand.proofs.role_sets.know_all.Goals as goal

pub know-requires : goal.know-requires
know-requires c = form_of_next (HasRoleForm LONGEST_SCOPE) _ _ _ _ c.in-Some.role c.loop-role.invariant c.in-Some.ensures.steps.0 c.requires
