use Rattle.std.proofs.Common.{ℕ, ◌≤◌, slice_index_or}
use Rattle.role_expand.specs.Index.{text_of, Begins, IsUnder}
use Rattle.role_expand.specs.declared.index.RoleKey.{RoleKey}
use Rattle.role_expand.proofs.index.nearest.Given as goal

abbrev pub invariant-loop-at : goal.invariant-loop-at
invariant-loop-at l =
    record {
      bound : l.at ≤ l.from;
      whole : (j : ℕ) → IsUnder l.keys l.from j → ((d : RoleKey) → Begins l.text (text_of (slice_index_or l.keys j d))) → IsUnder l.keys l.at j;
    }

abbrev pub decreases-loop-at : goal.decreases-loop-at
decreases-loop-at l = l.at
