use Rattle.std.proofs.Common.{ap, sym, ◌∙◌}
use Rattle.jsone_render.specs.Maps.{is_operator_key}
use Rattle.jsone_render.proofs.KeyLemmas.{passes, passes_not}
use Rattle.jsone_render.proofs.keys.with_operator.Goals as goal

pub returns-then-is_operator_key : goal.returns-then-is_operator_key
returns-then-is_operator_key c = λ ks h.
    passes is_operator_key c.with_other.result ks c.args.key.now (ap is_operator_key (sym c.as_bytes.ensures.value) ∙ sym c.is_operator_key.ensures ∙ c.if-is_operator_key.true) (c.with_other.ensures ks h)

pub returns-else-is_operator_key : goal.returns-else-is_operator_key
returns-else-is_operator_key c = λ ks h.
    passes_not is_operator_key c.args.others ks c.args.key.now (ap is_operator_key (sym c.as_bytes.ensures.value) ∙ sym c.is_operator_key.ensures ∙ c.if-is_operator_key.false) h
