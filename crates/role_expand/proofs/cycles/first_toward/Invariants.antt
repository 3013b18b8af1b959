use Rattle.std.proofs.Common.{◌≡◌, ◌<◌, ℕ, get_or}
use Rattle.role_expand.specs.Roles.{roles_data}
use Rattle.role_expand.specs.Cycles.{EdgeAt}
use Rattle.role_expand.proofs.cycles.first_toward.Given as goal

abbrev pub invariant-loop-to : goal.invariant-loop-to
invariant-loop-to l = (k : ℕ) → k < l.to → get_or l.steps k 0 ≡ l.left → EdgeAt (roles_data l.roles) l.at k → ⊥
