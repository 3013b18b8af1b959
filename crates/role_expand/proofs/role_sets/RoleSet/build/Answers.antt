use Rattle.std.proofs.Common.{◌≡◌, rules}
use Rattle.scope_sets.specs.declared.scopes.TheConstants.{LONGEST_SCOPE}
use Rattle.role_expand.specs.Cycles.{IsAccepted}
use Rattle.role_expand.specs.Index.{AreKeysOf}
use Rattle.role_expand.specs.Roles.{roles_data}
use Rattle.role_expand.specs.Known.{known_data}
use Rattle.role_expand.proofs.role_sets.RoleSet.build.Goals as goal

pub invariant_of-result : goal.invariant_of-result
invariant_of-result c =
    let known : known_data c.in_ok-know_all.field-0.items ≡ roles_data c.args.roles.items = c.in_ok-know_all.ensures in
    let keys : AreKeysOf (roles_data c.args.roles.items) c.in_ok-index.index = rw c.deref-4.ensures.value at c.in_ok-index.ensures in
    let accepted : IsAccepted LONGEST_SCOPE (roles_data c.args.roles.items) = search rules in
    rw known (accepted, keys)
