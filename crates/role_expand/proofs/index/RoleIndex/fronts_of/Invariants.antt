use Rattle.std.proofs.Common.{◌≡◌, ℕ, ◌<◌, ◌≤◌, ◌⊎◌, Contains, length, get_or}
use Rattle.role_expand.specs.Index.{text_of, Begins, IsUnder}
use Rattle.role_expand.specs.declared.index.RoleKey.{RoleKey}
use Rattle.role_expand.proofs.index.RoleIndex.fronts_of.Given as goal

abbrev pub invariant-loop-at : goal.invariant-loop-at
invariant-loop-at l =
    record {
      bound : l.at ≤ length l.self;
      whole : (j : ℕ) (key : RoleKey) → j < length l.self → get_or l.self j key ≡ key → Begins l.text (text_of key) → Contains l.places.items key.place ⊎ IsUnder l.self l.at j;
    }

abbrev pub decreases-loop-at : goal.decreases-loop-at
decreases-loop-at l = l.at
