use Rattle.std.proofs.Common.{◌≡◌, ◌<◌, ℕ, length, slice_index, slice_index_or}
use Rattle.role_expand.specs.Marks.{rank_of}
use Rattle.role_expand.specs.declared.index.RoleKey.{RoleKey}
use Rattle.role_expand.proofs.ranks.own_ranks.Given as goal

abbrev pub invariant-loop-at : goal.invariant-loop-at
invariant-loop-at l = record { len : length l.own.items ≡ l.at; own : (j : ℕ) (d : RoleKey) → j < l.at → rank_of l.ranks (slice_index_or l.marks j d) ≡ slice_index l.own.items j }
