use Rattle.std.proofs.Common.{sym, ap, ◌∙◌}
use Rattle.std.specs.Prelude.{option_copied}
use Rattle.http_wire.proofs.StreamLemmas.{coded, repeated, unstated, stated}
use Rattle.http_wire.proofs.rules.body_length.Goals as goal

pub returns-then-fields_named-gt0 : goal.returns-then-fields_named-gt0
returns-then-fields_named-gt0 c = coded _ _ _ c.fields_named.ensures.count c.if-fields_named-gt0.true

pub returns-then-lengths-gt1 : goal.returns-then-lengths-gt1
returns-then-lengths-gt1 c = repeated _ _ _ _ c.fields_named.ensures.count c.if-fields_named-gt0.false c.fields_named-lengths.ensures.count c.if-lengths-gt1.true

pub returns-in-Some : goal.returns-in-Some
returns-in-Some c =
    let first = ap option_copied (sym c.in-Some.is) ∙ c.fields_named-lengths.ensures.first in
    c.length_of.ensures ∙ stated _ _ c.in-Some.value.now _ _ c.fields_named.ensures.count c.if-fields_named-gt0.false c.fields_named-lengths.ensures.count c.if-lengths-gt1.false first

pub returns-in-None : goal.returns-in-None
returns-in-None c = unstated _ _ _ c.fields_named.ensures.count c.if-fields_named-gt0.false (ap option_copied (sym c.in-None.is) ∙ c.fields_named-lengths.ensures.first)
