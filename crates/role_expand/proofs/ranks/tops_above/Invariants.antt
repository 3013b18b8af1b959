use Rattle.std.proofs.Common.{◌≡◌, length}
use Rattle.role_expand.specs.Marks.{AreTopsAbove}
use Rattle.role_expand.proofs.ranks.tops_above.Given as goal

abbrev pub invariant-loop-at : goal.invariant-loop-at
invariant-loop-at l = record { len : length l.tops.items ≡ l.at; tops : AreTopsAbove l.marks l.ranks l.tops.items }
