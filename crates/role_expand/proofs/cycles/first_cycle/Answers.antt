use Rattle.std.proofs.Common.{arith}
use Rattle.std.proofs.lemmas.List.{length-map}
use Rattle.role_expand.specs.Roles.{roles_data, role_data}
use Rattle.role_expand.proofs.LevelLemmas.{acyclic_from}
use Rattle.role_expand.proofs.cycles.first_cycle.Goals as goal

pub returns : goal.returns
returns c = acyclic_from (roles_data c.args.roles.now) c.loop-place.place (omega (arith, length-map c.args.roles.now role_data)) c.loop-place.invariant
