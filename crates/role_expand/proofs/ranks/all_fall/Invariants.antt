use Rattle.std.proofs.Common.{◌<◌, ◌≤◌, ℕ, length, slice_index, slice_index_or}
use Rattle.role_expand.specs.Marks.{bound_of}
use Rattle.role_expand.specs.declared.index.RoleKey.{RoleKey}
use Rattle.role_expand.proofs.ranks.all_fall.Given as goal

abbrev pub invariant-loop-at : goal.invariant-loop-at
invariant-loop-at l = (k : ℕ) (d : RoleKey) → k < l.at → length l.ranks ≤ (slice_index_or l.marks k d).place
    → (slice_index l.above k < bound_of l.ranks l.slack (slice_index_or l.marks k d)) × (slice_index l.below k < bound_of l.ranks l.slack (slice_index_or l.marks k d))
