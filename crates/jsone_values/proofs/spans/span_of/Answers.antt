use Rattle.jsone_values.proofs.SpanLemmas.{behind_a_minus, behind_a_plus, without_a_sign}
use Rattle.jsone_values.proofs.spans.span_of.Goals as goal

pub returns-then-first-eq45 : goal.returns-then-first-eq45
returns-then-first-eq45 c =
    behind_a_minus c.args.bytes.now c.unspaced-rest.result.now c.cut.result.1.now c.first_byte-first.result c.all_parts_of.result c.with_sign.result c.unspaced-rest.ensures c.cut.ensures.behind c.first_byte-first.ensures c.if-first-eq45.true c.all_parts_of.ensures c.with_sign.ensures

pub returns-then-first-eq43 : goal.returns-then-first-eq43
returns-then-first-eq43 c =
    behind_a_plus c.args.bytes.now c.unspaced-rest.result.now c.cut.result.1.now c.first_byte-first.result c.all_parts_of-then-first-eq43.result c.with_sign-then-first-eq43.result c.unspaced-rest.ensures c.cut.ensures.behind c.first_byte-first.ensures c.if-first-eq45.false c.if-first-eq43.true
    c.all_parts_of-then-first-eq43.ensures c.with_sign-then-first-eq43.ensures

pub returns : goal.returns
returns c =
    without_a_sign c.args.bytes.now c.unspaced-rest.result.now c.first_byte-first.result c.all_parts_of-2.result c.with_sign-2.result c.unspaced-rest.ensures c.first_byte-first.ensures c.if-first-eq45.false c.if-first-eq43.false c.all_parts_of-2.ensures c.with_sign-2.ensures
