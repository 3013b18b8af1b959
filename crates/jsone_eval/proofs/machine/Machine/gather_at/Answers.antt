use Rattle.std.proofs.Common.{map, reverse}
use Rattle.farm_text.specs.Doc.{document, documents}
use Rattle.jsone_eval.specs.Machine.{part_of, values_in, parts_in}
use Rattle.jsone_eval.proofs.MachineLemmas.{gathers_at}
use Rattle.jsone_eval.proofs.machine.Machine.gather_at.Goals as goal

pub returns-in-Ok : goal.returns-in-Ok
returns-in-Ok c =
    let self = c.args.self.now in
    gathers_at c.args.key.now (values_in self) (reverse (documents c.take-value.new.values.items)) (parts_in self) (map part_of (reverse c.take_gathered-part.new.gathered.items)) (document c.take-value.result) (part_of c.in-Ok.part) (part_of c.take_gathered-part.result) self.passed
    self.spent c.keep.result c.keep.new.self c.take-value.ensures.top c.take-value.ensures.below c.take_gathered-part.ensures.top c.take_gathered-part.ensures.below c.in-Ok.ensures c.keep.ensures
