use Rattle.std.proofs.Common.{reverse}
use Rattle.farm_text.specs.Doc.{document, documents}
use Rattle.jsone_eval.specs.Operators.{IsJoined}
use Rattle.jsone_eval.specs.Machine.{values_in, parts_in}
use Rattle.jsone_eval.proofs.MachineLemmas.{pays_for_two}
use Rattle.jsone_eval.proofs.machine.Machine.join.Goals as goal

pub returns : goal.returns
returns c = λ s.
    let self = c.args.self.now in
    pays_for_two (IsJoined c.args.operator) c.joined-found.result (values_in self) (reverse (documents c.take-right.new.values.items)) (reverse (documents c.take-left.new.values.items)) (document c.take-left.result) (document c.take-right.result) (parts_in self) self.passed self.spent c.pay.result c.pay.new.self
    c.take-right.ensures.top c.take-right.ensures.below c.take-left.ensures.top c.take-left.ensures.below c.joined-found.ensures c.pay.ensures
