use Rattle.std.proofs.Common.{take, ◌≢◌}
use Rattle.std.specs.List.{AllPairs}
use Rattle.role_expand.specs.Roles.{roles_data}
use Rattle.role_expand.proofs.RepeatLemmas.{HasPlaces}
use Rattle.role_expand.proofs.refusals.first_repeat.Given as goal

abbrev pub invariant-loop-later : goal.invariant-loop-later
invariant-loop-later l = AllPairs (λ p q. p.id ≢ q.id) (take l.later (roles_data l.roles)) × HasPlaces (roles_data l.roles) l.ids l.later
