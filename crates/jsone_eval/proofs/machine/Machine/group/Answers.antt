use Rattle.std.proofs.Common.{◌≡◌, Ok, refl, reverse}
use Rattle.farm_text.specs.Doc.{document, documents}
use Rattle.jsone_eval.specs.Machine.{values_in, parts_in}
use Rattle.jsone_eval.proofs.MachineLemmas.{pays_for_one}
use Rattle.jsone_eval.proofs.machine.Machine.group.Goals as goal

pub returns : goal.returns
returns c = λ s.
    let self = c.args.self.now in
    pays_for_one (λ d r. r ≡ Ok d) (Ok c.take-value.result) (values_in self) (reverse (documents c.take-value.new.values.items)) (document c.take-value.result) (parts_in self) self.passed self.spent c.pay.result c.pay.new.self
    c.take-value.ensures.top c.take-value.ensures.below refl c.pay.ensures
