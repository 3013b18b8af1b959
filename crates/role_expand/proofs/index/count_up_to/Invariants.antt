use Rattle.std.proofs.Common.{◌≡◌, ℕ, ◌-◌, ◌<◌, ◌≤◌, true, false, length, slice_index_or}
use Rattle.std.specs.Cmp.Lexicographic.{slice_cmp}
use Rattle.std.specs.Ordering.{nat_cmp, is_lt}
use Rattle.role_expand.specs.Index.{text_of}
use Rattle.role_expand.specs.declared.index.RoleKey.{RoleKey}
use Rattle.role_expand.proofs.index.count_up_to.Given as goal

abbrev pub invariant-halves : goal.invariant-halves
invariant-halves l =
    record {
      low_high : l.low ≤ l.high;
      high_in : l.high ≤ length l.keys;
      before : (j : ℕ) (d : RoleKey) → j < l.low → is_lt (slice_cmp nat_cmp l.text (text_of (slice_index_or l.keys j d))) ≡ false;
      after : (j : ℕ) (d : RoleKey) → l.high ≤ j → j < length l.keys → is_lt (slice_cmp nat_cmp l.text (text_of (slice_index_or l.keys j d))) ≡ true;
    }

abbrev pub decreases-halves : goal.decreases-halves
decreases-halves l = l.high - l.low
