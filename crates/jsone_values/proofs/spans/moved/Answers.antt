use Rattle.std.proofs.Common.{arith}
use Rattle.jsone_values.proofs.SpanLemmas.{moved_back, not_moved_back, moved_on}
use Rattle.jsone_values.proofs.spans.moved.Goals as goal

pub returns-in-Some : goal.returns-in-Some
returns-in-Some c = λ n is.
    rw c.if-is_back.true (moved_back c.from_millis.result c.args.moment c.args.millis c.in-Some.earlier n
    (omega (arith, c.millis.ensures.value, c.millis.ensures.within)) is (omega (arith, c.millis.ensures.value, c.in-Some.ensures.0)) (omega (arith, c.millis.ensures.value, c.in-Some.ensures.1)) c.from_millis.ensures.within c.from_millis.ensures.value)

pub returns-in-None : goal.returns-in-None
returns-in-None c = λ n is.
    rw c.if-is_back.true (not_moved_back c.args.moment c.args.millis n is (λ less. c.in-None.ensures (omega (arith, less, c.millis.ensures.value))))

pub returns-else-is_back : goal.returns-else-is_back
returns-else-is_back c = λ n is.
    rw c.if-is_back.false (moved_on c.from_millis-else-is_back.result c.args.moment c.args.millis c.saturating_add.result n
    (omega (arith, c.millis-else-is_back.ensures.value, c.millis-else-is_back.ensures.within)) is (omega (arith, c.millis-else-is_back.ensures.value, c.saturating_add.ensures)) c.from_millis-else-is_back.ensures.within c.from_millis-else-is_back.ensures.value)
