use Rattle.std.proofs.Common.{refl, inr}
use Rattle.jsone_values.specs.Spans.{shifted}
use Rattle.jsone_values.proofs.SpanLemmas.{from_moment}
use Rattle.jsone_values.proofs.spans.moved_from.Goals as goal

pub returns-in-Some : goal.returns-in-Some
returns-in-Some c = λ n is.
    from_moment (c.args.is_back, n) c.args.from.now c.in-Some.moment c.written.result c.in-Some.ensures.is (c.written.ensures (shifted (c.args.is_back, n) c.in-Some.moment) (c.moved.ensures n is))

pub returns-in-None : goal.returns-in-None
returns-in-None c = λ n is. inr (c.in-None.ensures.none refl, refl)
