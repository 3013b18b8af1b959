use Rattle.std.proofs.Common.{List, ℕ, Contains, take}
use Rattle.role_expand.specs.Cycles.{Reaches}
use Rattle.role_expand.proofs.cycles.one_reaches.Given as goal

abbrev pub invariant-loop-scope : goal.invariant-loop-scope
invariant-loop-scope l = (scope : List ℕ) → Contains (take l.scope-index l.scopes) scope → Reaches scope l.front → ⊥
