use Rattle.std.proofs.Common.{Some}
use Rattle.farm_text.specs.Doc.{document}
use Rattle.jsone_values.proofs.SpanLemmas.{by_a_span}
use Rattle.jsone_values.proofs.spans.moved_by.Goals as goal

pub returns-in-Some-Some : goal.returns-in-Some-Some
returns-in-Some-Some c =
    rw c.in-Some-Some.is-1 (by_a_span c.args.span c.in-Some-Some.is_back c.in-Some-Some.millis (Some (document c.in-Some-Some.from.now)) c.moved_from_value.result c.in-Some-Some.is-0 c.moved_from_value.ensures)
