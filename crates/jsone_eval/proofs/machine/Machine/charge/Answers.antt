use Rattle.std.proofs.Common.{◌+◌, List, min, reverse, arith, ap, ◌∙◌}
use Rattle.farm_text.specs.Doc.{document, documents}
use Rattle.farm_text.specs.declared.doc.Doc.{Doc}
use Rattle.jsone_eval.specs.Machine.{went, values_in, parts_in}
use Rattle.jsone_eval.proofs.MachineLemmas.{charge_too_much, charge_within, last_value}
use Rattle.jsone_eval.proofs.machine.Machine.charge.Goals as goal

pub returns-then-spent-gt-LIMIT : goal.returns-then-spent-gt-LIMIT
returns-then-spent-gt-LIMIT c =
    let self = c.args.self.now in
    charge_too_much (values_in self) (parts_in self) self.passed self.spent c.saturating_add-spent.result (document c.args.value)
    (c.saturating_add-spent.ensures ∙ ap (λ w. min (self.spent + w) 18446744073709551615) c.weight_of.ensures) (omega (arith, c.if-spent-gt-LIMIT.true))

pub returns : goal.returns
returns c =
    let self = c.args.self.now in
    ap (λ (xs : List Doc). went (reverse (documents xs)) (parts_in self) self.passed c.saturating_add-spent.result) c.in-Ok.ensures.items
    ∙ ap (λ vs. went vs (parts_in self) self.passed c.saturating_add-spent.result) (last_value document self.values.items c.args.value)
    ∙ charge_within (values_in self) (parts_in self) self.passed self.spent c.saturating_add-spent.result (document c.args.value)
    (c.saturating_add-spent.ensures ∙ ap (λ w. min (self.spent + w) 18446744073709551615) c.weight_of.ensures) (omega (arith, c.if-spent-gt-LIMIT.false))
