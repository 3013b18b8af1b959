use Rattle.std.proofs.Common.{◌≡◌}
use Rattle.std.specs.Vec.Iter.{into_iter_items}
use Rattle.farm_text.specs.Doc.{documents}
use Rattle.farm_text.proofs.DocLemmas.{members_in}
use Rattle.jsone_render.specs.Merges.{merged, merged_onto}
use Rattle.jsone_render.proofs.merges.merge_of.Given as goal

-- what is left to merge makes the whole
abbrev pub invariant-loop-item : goal.invariant-loop-item
invariant-loop-item l = merged_onto (members_in l.map.entries) (documents (into_iter_items l.item-iterator)) ≡ merged (documents (into_iter_items l.initial.item-iterator))
