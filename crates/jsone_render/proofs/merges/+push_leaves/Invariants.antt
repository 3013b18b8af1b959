use Rattle.std.proofs.Common.{◌≡◌, ◌++◌, drop}
use Rattle.farm_text.specs.Document.{items_of}
use Rattle.farm_text.specs.Doc.{documents}
use Rattle.jsone_render.specs.Merges.{items_leaves}
use Rattle.jsone_render.proofs.merges.+push_leaves.Given as goal

-- what is left to flatten makes the whole
abbrev pub invariant-loop-item : goal.invariant-loop-item
invariant-loop-item l =
    documents l.flat.items ++ items_leaves (items_of (documents (drop l.item-index l.item-items))) ≡ documents l.initial.flat.items ++ items_leaves (items_of (documents l.item-items))
