use Rattle.std.proofs.Common.{◌<◌, ◌∷◌, ℕ, List}
use Rattle.role_expand.specs.Roles.{roles_data}
use Rattle.role_expand.specs.Cycles.{IsCycle}
use Rattle.role_expand.proofs.cycles.first_cycle.Given as goal

abbrev pub invariant-loop-place : goal.invariant-loop-place
invariant-loop-place l = (j : ℕ) (others : List ℕ) → j < l.place → ¬ IsCycle (roles_data l.roles) (j ∷ others)
