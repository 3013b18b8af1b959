use Rattle.std.proofs.Common.{◌≤◌, ◌↔◌, drop}
use Rattle.serde_json.specs.Data.{items_depth, members_depth}
use Rattle.farm_text.specs.Document.{items_of, members_of, items_data, members_data}
use Rattle.farm_text.specs.Doc.{documents, entries_of}
use Rattle.task_defs.proofs.documents.+nests.Given as goal

abbrev pub invariant-items_nest_within-loop-item : goal.invariant-items_nest_within-loop-item
invariant-items_nest_within-loop-item l =
    (items_depth (items_data (items_of (documents l.item-items))) ≤ l.most) ↔ (items_depth (items_data (items_of (documents (drop l.item-index l.item-items)))) ≤ l.most)

abbrev pub invariant-members_nest_within-loop-member : goal.invariant-members_nest_within-loop-member
invariant-members_nest_within-loop-member l =
    (members_depth (members_data (members_of (entries_of l.members.entries))) ≤ l.most) ↔ (members_depth (members_data (members_of (entries_of l.member-iterator))) ≤ l.most)
