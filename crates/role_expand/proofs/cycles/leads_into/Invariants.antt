use Rattle.std.proofs.Common.{ℕ, Contains, take}
use Rattle.role_expand.specs.Roles.{roles_data}
use Rattle.role_expand.specs.Cycles.{EdgeAt}
use Rattle.role_expand.proofs.cycles.leads_into.Given as goal

abbrev pub invariant-loop-to : goal.invariant-loop-to
invariant-loop-to l = (to : ℕ) → Contains (take l.to-index l.level) to → EdgeAt (roles_data l.roles) l.from to → ⊥
