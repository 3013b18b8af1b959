use Rattle.std.proofs.Common.{ℕ, List, subst}
use Rattle.jsone_values.specs.Meets.{Meets}
use Rattle.jsone_values.specs.Spans.{IsMovedFrom}
use Rattle.jsone_values.proofs.SpanLemmas.{from_value}
use Rattle.jsone_values.proofs.spans.moved_from_value.Goals as goal

pub returns-in-Text : goal.returns-in-Text
returns-in-Text c = λ n is.
    from_value (c.args.is_back, n) c.args.from.now c.in-Text.from c.moved_from.result c.in-Text.is (subst (λ (bs : List ℕ). Meets (IsMovedFrom (c.args.is_back, n) bs) c.moved_from.result) c.as_bytes.ensures.bytes (c.moved_from.ensures n is))
