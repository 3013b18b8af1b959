use Rattle.std.proofs.Common.{◌≡◌, ◌++◌, drop}
use Rattle.farm_text.specs.Doc.{documents}
use Rattle.jsone_render.proofs.merges.joined.Given as goal

-- what is left to copy makes the whole
abbrev pub invariant-loop-item : goal.invariant-loop-item
invariant-loop-item l = documents l.all.items ++ documents (drop l.item-index l.item-items) ≡ documents l.fn.items.items ++ documents l.item-items
