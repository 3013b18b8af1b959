use Rattle.std.proofs.Common.{take, sum}
use Rattle.task_defs.specs.Lengths.{Covers}
use Rattle.task_defs.proofs.full_length.total.Given as goal

abbrev pub invariant-loop-part : goal.invariant-loop-part
invariant-loop-part l = Covers l.most (sum (take l.part-index l.parts))
