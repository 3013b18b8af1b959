use Rattle.std.proofs.Common.{ℕ, ◌-◌, ◌<◌, ◌≤◌, length, slice_index_or}
use Rattle.role_expand.specs.Index.{text_of, Begins}
use Rattle.role_expand.specs.declared.index.RoleKey.{RoleKey}
use Rattle.role_expand.proofs.index.count_with.Given as goal

abbrev pub invariant-halves : goal.invariant-halves
invariant-halves l =
    record {
      low_high : l.low ≤ l.high;
      high_in : l.high ≤ length l.keys;
      after : (j : ℕ) (d : RoleKey) → l.high ≤ j → j < length l.keys → Begins (text_of (slice_index_or l.keys j d)) l.text → ⊥;
    }

abbrev pub decreases-halves : goal.decreases-halves
decreases-halves l = l.high - l.low
