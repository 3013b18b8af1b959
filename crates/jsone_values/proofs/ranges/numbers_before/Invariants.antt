use Rattle.std.proofs.Common.{◌≡◌, ◌++◌}
use Rattle.farm_text.specs.Doc.{documents}
use Rattle.jsone_values.specs.Ranges.{stepping, steps_before}
use Rattle.jsone_values.proofs.ranges.numbers_before.Given as goal

-- with what is left they are all
abbrev pub invariant-loop-numbers : goal.invariant-loop-numbers
invariant-loop-numbers l = documents l.numbers.items ++ stepping l.next l.step (steps_before l.next l.end l.step) ≡ stepping l.from l.step (steps_before l.from l.end l.step)

abbrev pub decreases-loop-numbers : goal.decreases-loop-numbers
decreases-loop-numbers l = steps_before l.next l.end l.step
