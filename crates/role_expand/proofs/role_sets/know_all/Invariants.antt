use Rattle.std.proofs.Common.{◌≡◌, ◌++◌}
use Rattle.std.specs.Vec.Iter.{into_iter_items}
use Rattle.role_expand.specs.Roles.{roles_data}
use Rattle.role_expand.specs.Known.{known_data}
use Rattle.role_expand.proofs.role_sets.know_all.Given as goal

abbrev pub invariant-loop-role : goal.invariant-loop-role
invariant-loop-role l = roles_data l.fn.roles.items ≡ known_data l.known.items ++ roles_data (into_iter_items l.role-iterator)
