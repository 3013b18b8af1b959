use Rattle.jsone_values.proofs.SliceLemmas.{slice_list}
use Rattle.jsone_values.proofs.slices.slice_of.Goals as goal

pub returns-in-Ok-clause-value : goal.returns-in-Ok-clause-value
returns-in-Ok-clause-value c = slice_list c.args.from c.args.to c.args.value.now c.in-List.items c.in-Ok.part c.deref.result.now c.in-List.is c.deref.ensures.value c.in-Ok.ensures
