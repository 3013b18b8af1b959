use Rattle.std.proofs.Common.{◌||◌, sym, ap, ◌∙◌, map}
use Rattle.std.proofs.lemmas.Bool.{ne_eqb}
use Rattle.httparse.specs.Spans.{header_bytes}
use Rattle.http1.specs.Fields.{known_fields}
use Rattle.http_wire.proofs.rules.closes.Goals as goal

pub returns-else-minor-eq0 : goal.returns-else-minor-eq0
unfolding known_fields
returns-else-minor-eq0 c =
    let fields = map (header_bytes c.args.head.now) c.args.fields.now in
    ap (λ k. k.close) c.from_spans.ensures ∙ ap (λ t. t || (known_fields fields).close) (sym (ne_eqb c.args.minor 0 c.if-minor-eq0.false))
