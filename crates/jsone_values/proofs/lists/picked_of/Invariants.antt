use Rattle.std.proofs.Common.{◌≡◌, if◌then◌else◌, drop}
use Rattle.std.specs.Int.{int_max, int_min}
use Rattle.farm_text.specs.Doc.{documents}
use Rattle.jsone_values.specs.Lists.{picked_from, picked}
use Rattle.jsone_values.proofs.lists.picked_of.Given as goal

abbrev pub invariant-loop-value : goal.invariant-loop-value
invariant-loop-value l =
    picked_from (if l.greatest then int_max else int_min) l.number (documents (drop l.value-index l.rest)) ≡ picked (if l.greatest then int_max else int_min) (documents l.fn.values)
