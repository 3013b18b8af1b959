use Rattle.std.proofs.Common.{◌≡◌, length}
use Rattle.jsone_values.specs.Numbers.{digits_from}
use Rattle.jsone_eval.proofs.pieces.without_runs.Given as goal

-- what is left is the same number
abbrev pub invariant-loop-behind : goal.invariant-loop-behind
invariant-loop-behind l = digits_from 0 l.rest ≡ digits_from 0 l.digits

abbrev pub decreases-loop-behind : goal.decreases-loop-behind
decreases-loop-behind l = length l.rest
