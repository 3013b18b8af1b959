use Rattle.std.proofs.Common.{◌≡◌, reverse}
use Rattle.farm_text.specs.Doc.{document, documents}
use Rattle.jsone_eval.specs.Values.{text_at, member_named}
use Rattle.jsone_eval.specs.Machine.{values_in, parts_in}
use Rattle.jsone_eval.proofs.MachineLemmas.{pays_for_one}
use Rattle.jsone_eval.proofs.machine.Machine.member.Goals as goal

pub returns : goal.returns
returns c = λ s same.
    let self = c.args.self.now in
    rw same (pays_for_one (λ d r. r ≡ member_named d (text_at c.args.text.now c.args.word.span)) c.member_at-found.result (values_in self) (reverse (documents c.take-value.new.values.items)) (document c.take-value.result) (parts_in self) self.passed self.spent c.pay.result c.pay.new.self
    c.take-value.ensures.top c.take-value.ensures.below c.member_at-found.ensures c.pay.ensures)
