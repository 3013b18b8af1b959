use Rattle.std.proofs.Common.{◌≡◌, Ok, ap, map, reverse}
use Rattle.farm_text.specs.Document.{array, items_of}
use Rattle.farm_text.specs.declared.doc.Doc.TheVariants.{List as list_doc}
use Rattle.farm_text.proofs.DocLemmas.{document-List}
use Rattle.jsone_eval.specs.Machine.{values_in, part_of, parts_in}
use Rattle.jsone_eval.proofs.MachineLemmas.{pays_for_part}
use Rattle.jsone_eval.proofs.machine.Machine.close_list.Goals as goal

pub returns : goal.returns
returns c = λ s.
    let self = c.args.self.now in
    let v = c.take_gathered-values.result.values in
    pays_for_part (λ g r. r ≡ Ok (array (items_of g.0))) (Ok (list_doc v)) (values_in self) (parts_in self) (map part_of (reverse c.take_gathered-values.new.gathered.items)) (part_of c.take_gathered-values.result) self.passed self.spent c.pay.result c.pay.new.self
    c.take_gathered-values.ensures.top c.take_gathered-values.ensures.below (ap Ok (document-List v)) c.pay.ensures
