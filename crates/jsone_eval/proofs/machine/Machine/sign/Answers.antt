use Rattle.std.proofs.Common.{reverse}
use Rattle.farm_text.specs.Doc.{document, documents}
use Rattle.jsone_eval.specs.Operators.{IsSigned}
use Rattle.jsone_eval.specs.Machine.{values_in, parts_in}
use Rattle.jsone_eval.proofs.MachineLemmas.{pays_for_one}
use Rattle.jsone_eval.proofs.machine.Machine.sign.Goals as goal

pub returns : goal.returns
returns c = λ s.
    let self = c.args.self.now in
    pays_for_one (IsSigned c.args.sign) c.signed-found.result (values_in self) (reverse (documents c.take-value.new.values.items)) (document c.take-value.result) (parts_in self) self.passed self.spent c.pay.result c.pay.new.self
    c.take-value.ensures.top c.take-value.ensures.below c.signed-found.ensures c.pay.ensures
