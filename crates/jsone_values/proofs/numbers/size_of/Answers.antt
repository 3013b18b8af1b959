use Rattle.std.proofs.Common.{arith}
use Rattle.jsone_values.proofs.DigitLemmas.{whole_too_great, whole_is}
use Rattle.jsone_values.proofs.numbers.size_of.Goals as goal

pub returns-in-None : goal.returns-in-None
returns-in-None c = whole_too_great c.loop-digit.size c.loop-digit.digit-index c.args.digits.now c.loop-digit-test.true c.loop-digit.invariant.whole c.in-None.ensures

pub returns : goal.returns
returns c =
    let whole = whole_is c.loop-digit.size c.loop-digit.digit-index c.args.digits.now c.loop-digit-test.false c.loop-digit.invariant.whole in
    let small = c.loop-digit.invariant.small in
    (omega (arith, whole, small), whole)
