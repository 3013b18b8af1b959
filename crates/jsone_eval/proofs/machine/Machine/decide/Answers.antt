use Rattle.std.proofs.Common.{List, reverse, arith, refl, ap, sym, ◌∙◌}
use Rattle.farm_text.specs.Doc.{documents}
use Rattle.farm_text.specs.declared.doc.Doc.{Doc}
use Rattle.jsone_values.specs.Truth.{is_true}
use Rattle.jsone_eval.specs.Machine.{top, values_in, parts_in}
use Rattle.jsone_eval.specs.Operators.{decides}
use Rattle.jsone_eval.proofs.MachineLemmas.{undecided, decides_so}
use Rattle.jsone_eval.proofs.machine.Machine.decide.Goals as goal

pub returns-then-not-is_decided : goal.returns-then-not-is_decided
returns-then-not-is_decided c = λ s.
    let self = c.args.self.now in
    let at_top = ap (λ (xs : List Doc). decides c.args.operator (top (reverse (documents xs)))) (sym c.deref.ensures.value) ∙ sym c.left_side-is_decided.ensures.decided ∙ c.if-not-is_decided.true in
    undecided (decides c.args.operator (top (values_in self))) _ _ at_top refl

pub returns : goal.returns
returns c = λ s.
    let self = c.args.self.now in
    let at_top = ap (λ (xs : List Doc). decides c.args.operator (top (reverse (documents xs)))) (sym c.deref.ensures.value) ∙ sym c.left_side-is_decided.ensures.decided ∙ c.if-not-is_decided.false in
    let truth = c.left_side-is_decided.ensures.truth ∙ ap (λ (xs : List Doc). is_true (top (reverse (documents xs)))) c.deref.ensures.value in
    decides_so (decides c.args.operator (top (values_in self))) c.left_side-is_decided.result.1 (values_in self) (reverse (documents c.take.new.values.items)) (parts_in self) self.passed c.in-Some.passed self.spent c.charge.result c.charge.new.self
    at_top truth c.take.ensures.below (omega (arith, c.in-Some.ensures.1)) c.charge.ensures
