use Rattle.std.proofs.Common.{◌≡◌, take}
use Rattle.farm_text.specs.Doc.{documents}
use Rattle.jsone_values.proofs.slices.copies.Given as goal

abbrev pub invariant-loop-item : goal.invariant-loop-item
invariant-loop-item l = documents l.copies.items ≡ documents (take l.item-index l.items)
