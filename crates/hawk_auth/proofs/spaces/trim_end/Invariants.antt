use Rattle.std.proofs.Common.{◌≡◌, ◌≤◌, length, take}
use Rattle.std.specs.Prelude.{reverse}
use Rattle.hawk_auth.specs.Mac.{skip_spaces}
use Rattle.hawk_auth.proofs.spaces.trim_end.Given as goal

abbrev pub invariant-loop-end : goal.invariant-loop-end
invariant-loop-end l = (l.end ≤ length l.text) × (skip_spaces (reverse (take l.end l.text)) ≡ skip_spaces (reverse l.text))

abbrev pub decreases-loop-end : goal.decreases-loop-end
decreases-loop-end l = l.end
