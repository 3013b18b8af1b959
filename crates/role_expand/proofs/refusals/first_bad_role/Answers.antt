use Rattle.std.proofs.Common.{List, arith, subst}
use Rattle.std.proofs.lemmas.Bool.{both_ways}
use Rattle.std.specs.List.{All}
use Rattle.scope_sets.specs.declared.scopes.TheConstants.{LONGEST_SCOPE}
use Rattle.role_expand.specs.Roles.{RoleData, role_data, HasRoleForm}
use Rattle.role_expand.proofs.PlaceLemmas.{get_mapped, All_more, whole}
use Rattle.role_expand.proofs.refusals.first_bad_role.Goals as goal

pub returns-then-not-has_role_form : goal.returns-then-not-has_role_form
returns-then-not-has_role_form c = record {
  role = role_data c.index-roles-place.result;
  at = get_mapped role_data c.args.roles.now c.loop-place.place c.index-roles-place.result (omega arith) c.index-roles-place.is;
  bad = λ h. both_ways _ c.if-not-has_role_form.true (c.has_role_form.ensures.1 h);
  before = c.loop-place.invariant;
}

pub loop-place-preserved : goal.loop-place-preserved
loop-place-preserved c =
    All_more role_data c.args.roles.now c.loop-place.place c.index-roles-place.result (omega arith) c.index-roles-place.is (HasRoleForm LONGEST_SCOPE) c.loop-place.invariant (c.has_role_form.ensures.0 c.if-not-has_role_form.false)

pub returns : goal.returns
returns c = subst (λ (t : List RoleData). All (HasRoleForm LONGEST_SCOPE) t) (whole role_data c.args.roles.now c.loop-place.place (omega arith)) c.loop-place.invariant
