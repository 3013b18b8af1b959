use Rattle.std.proofs.Common.{pos, ◌≤ℤ◌, to_z-of_z, arith}
use Rattle.jiff_core.proofs.SignedLemmas.{signed_arith}
use Rattle.task_defs.proofs.LengthLemmas.{digit_size, number_size}
use Rattle.task_defs.proofs.lengths.number_bytes.Goals as goal

pub returns-then-n-le9 : goal.returns-then-n-le9
returns-then-n-le9 c =
    let back = to_z-of_z c.ranges.n in
    let from : pos 0 ≤ℤ c.args.n = omega (arith, signed_arith, rw back at c.if-n-ge0.true) in
    let upto : c.args.n ≤ℤ pos 9 = omega (arith, signed_arith, rw back at c.if-n-le9.true) in
    λ _. digit_size c.args.n from upto

pub returns-else-n-ge0 : goal.returns-else-n-ge0
returns-else-n-ge0 c = λ _. number_size c.args.n c.ranges.n
