use Rattle.std.proofs.Common.{refl}
use Rattle.jsone_values.proofs.SliceLemmas.{copies_between}
use Rattle.jsone_values.proofs.slices.items_between.Goals as goal

pub returns-then-end-items : goal.returns-then-end-items
returns-then-end-items c = copies_between c.copies.result c.args.from c.args.to c.args.items.now _ c.start_of-start.result c.end_of-end.result c.copies.ensures refl c.start_of-start.ensures c.end_of-end.ensures
