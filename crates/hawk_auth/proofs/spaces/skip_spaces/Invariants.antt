use Rattle.std.proofs.Common.{◌≡◌, ◌≤◌, ◌-◌, length, drop}
use Rattle.hawk_auth.specs.Mac.{skip_spaces}
use Rattle.hawk_auth.proofs.spaces.skip_spaces.Given as goal

abbrev pub invariant-loop-start : goal.invariant-loop-start
invariant-loop-start l = (l.start ≤ length l.text) × (skip_spaces (drop l.start l.text) ≡ skip_spaces l.text)

abbrev pub decreases-loop-start : goal.decreases-loop-start
decreases-loop-start l = length l.text - l.start
