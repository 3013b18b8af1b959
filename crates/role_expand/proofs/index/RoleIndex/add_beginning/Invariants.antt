use Rattle.std.proofs.Common.{◌≡◌, ℕ, ◌<◌, ◌≤◌, Contains, get_or}
use Rattle.role_expand.specs.declared.index.RoleKey.{RoleKey}
use Rattle.role_expand.proofs.index.RoleIndex.add_beginning.Given as goal

abbrev pub invariant-loop-at : goal.invariant-loop-at
invariant-loop-at l =
    record {
      kept : (place : ℕ) → Contains l.initial.places.items place → Contains l.places.items place;
      added : (j : ℕ) (key : RoleKey) → l.low ≤ j → j < l.at → get_or l.self j key ≡ key → Contains l.places.items key.place;
    }
