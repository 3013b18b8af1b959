use Rattle.std.proofs.Common.{◌≡◌, ℕ, List, Bool, min, option_map, subst}
use Rattle.jsone_values.specs.Spans.{span_of}
use Rattle.jsone_values.proofs.SpanLemmas.{from_now}
use Rattle.jsone_values.proofs.spans.from_now_of.Goals as goal

pub returns-in-Text : goal.returns-in-Text
returns-in-Text c =
    from_now c.args.span.now c.in-Text.text _ c.moved_by.result c.in-Text.is
    (c.moved_by.ensures (span_of c.in-Text.text) (subst (λ (bs : List ℕ). c.span_of.result ≡ option_map (λ (span : Bool × ℕ). (span.0, min span.1 18446744073709551615)) (span_of bs)) c.as_bytes.ensures.bytes c.span_of.ensures))
