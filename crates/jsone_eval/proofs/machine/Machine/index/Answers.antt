use Rattle.std.proofs.Common.{◌≡◌, reverse}
use Rattle.farm_text.specs.Doc.{document, documents}
use Rattle.jsone_values.specs.Indexes.{indexed}
use Rattle.jsone_eval.specs.Machine.{values_in, parts_in}
use Rattle.jsone_eval.proofs.MachineLemmas.{pays_for_two}
use Rattle.jsone_eval.proofs.machine.Machine.index.Goals as goal

pub returns : goal.returns
returns c = λ s.
    let self = c.args.self.now in
    pays_for_two (λ d e r. r ≡ indexed d e) c.index_of-found.result (values_in self) (reverse (documents c.take-index.new.values.items)) (reverse (documents c.take-value.new.values.items)) (document c.take-value.result) (document c.take-index.result) (parts_in self) self.passed self.spent c.pay.result c.pay.new.self
    c.take-index.ensures.top c.take-index.ensures.below c.take-value.ensures.top c.take-value.ensures.below c.index_of-found.ensures c.pay.ensures
