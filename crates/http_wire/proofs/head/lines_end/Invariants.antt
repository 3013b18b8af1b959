use Rattle.std.proofs.Common.{ℕ, ◌<◌, ◌≤◌, length}
use Rattle.http_wire.specs.Head.{EndsLine}
use Rattle.http_wire.proofs.head.lines_end.Given as goal

-- no line ends past the place reached
abbrev pub invariant-loop-end : goal.invariant-loop-end
invariant-loop-end l = (l.end ≤ length l.bytes) × ((n : ℕ) → l.end < n → EndsLine l.bytes n → ⊥)

abbrev pub decreases-loop-end : goal.decreases-loop-end
decreases-loop-end l = l.end
