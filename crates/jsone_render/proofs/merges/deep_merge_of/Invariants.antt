use Rattle.std.proofs.Common.{◌≡◌, drop}
use Rattle.farm_text.specs.Document.{no_members}
use Rattle.farm_text.specs.Doc.{documents}
use Rattle.farm_text.proofs.DocLemmas.{members_in}
use Rattle.jsone_render.specs.Merges.{deep_merged_onto}
use Rattle.jsone_render.proofs.merges.deep_merge_of.Given as goal

-- what is left to merge makes the whole
abbrev pub invariant-loop-item : goal.invariant-loop-item
invariant-loop-item l = deep_merged_onto (members_in l.map.entries) (documents (drop l.item-index l.item-items)) ≡ deep_merged_onto no_members (documents l.item-items)
