use Rattle.std.proofs.Common.{◌≡◌, length}
use Rattle.http_wire.proofs.EmptyLines.{is_pairs}
use Rattle.http_wire.proofs.head.are_empty_lines.Given as goal

-- the pairs so far decide nothing
abbrev pub invariant-loop-rest : goal.invariant-loop-rest
invariant-loop-rest l = is_pairs l.bytes ≡ is_pairs l.rest

abbrev pub decreases-loop-rest : goal.decreases-loop-rest
decreases-loop-rest l = length l.rest
