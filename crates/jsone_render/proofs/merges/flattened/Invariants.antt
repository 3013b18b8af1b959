use Rattle.std.proofs.Common.{◌≡◌, ◌++◌}
use Rattle.std.specs.Vec.Iter.{into_iter_items}
use Rattle.farm_text.specs.Doc.{documents}
use Rattle.jsone_render.specs.Merges.{flattened}
use Rattle.jsone_render.proofs.merges.flattened.Given as goal

-- what is left to flatten makes the whole
abbrev pub invariant-loop-item : goal.invariant-loop-item
invariant-loop-item l = documents l.flat.items ++ flattened (documents (into_iter_items l.item-iterator)) ≡ flattened (documents l.fn.items.items)
