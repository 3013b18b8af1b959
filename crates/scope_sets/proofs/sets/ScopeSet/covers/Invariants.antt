use Rattle.std.proofs.Common.{ℕ, ◌<◌, [], ◌∷◌, ◌++◌, take, Contains}
use Rattle.scope_sets.specs.Scopes.{star, IsRising}
use Rattle.scope_sets.proofs.WalkLemmas.{IsPartBy}
use Rattle.scope_sets.proofs.sets.ScopeSet.covers.Given as goal

abbrev pub invariant-loop-n : goal.invariant-loop-n
invariant-loop-n l = record {
  rising : IsRising l.part;
  members : IsPartBy (take l.n l.scope) l.part l.self;
  fronts : (k : ℕ) → k < l.n → Contains l.self (take k l.scope ++ star ∷ []) → ⊥;
}
