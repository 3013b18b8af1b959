use Rattle.std.proofs.Common.{◌≡◌, ℕ, ◌↔◌, ◌++◌, List, true, All, Contains, take}
use Rattle.std.specs.Str.Iter.{HasSubslice}
use Rattle.role_expand.specs.Roles.{hole}
use Rattle.role_expand.proofs.role_sets.part.Given as goal

abbrev pub invariant-loop-scope : goal.invariant-loop-scope
invariant-loop-scope l = record {
  listed : (s : List ℕ) → Contains (l.plain.items ++ l.filled.items) s ↔ Contains (take l.scope-index l.scopes) s;
  free : l.starred ≡ true → All (λ s. ¬ HasSubslice s hole) l.plain.items;
}
