use Rattle.std.proofs.Common.{◌≡◌, List, ◌++◌, Some, drop}
use Rattle.serde_json.specs.Read.{of_members}
use Rattle.serde_json.specs.Written.{members_outline}
use Rattle.farm_text.specs.Document.{items_of, members_data}
use Rattle.farm_text.specs.Doc.{documents}
use Rattle.farm_text.specs.Written.{ItemsReadBack, MembersReadBack, AreWhole, MembersWhole}
use Rattle.farm_text.proofs.DocLemmas.{Entry, item_tokens_of, member_tokens_of, members_in}
use Rattle.farm_text.proofs.doc.+write.Given as goal

-- what is left to write makes the whole, and is read back into it
abbrev pub invariant-write_items-loop-item : goal.invariant-write_items-loop-item
invariant-write_items-loop-item l =
    (l.out.before ≡ l.initial.out.before)
    × (l.out.tokens ++ item_tokens_of (drop l.item-index l.item-items) ≡ l.initial.out.tokens ++ item_tokens_of l.item-items)
    × (ItemsReadBack (items_of (documents (drop l.item-index l.item-items))) → ItemsReadBack (items_of (documents l.item-items)))
    × (AreWhole (items_of (documents (drop l.item-index l.item-items))) → AreWhole (items_of (documents l.item-items)))

abbrev pub invariant-write_members-loop-key : goal.invariant-write_members-loop-key
invariant-write_members-loop-key l =
    (l.out.before ≡ l.initial.out.before)
    × (l.out.tokens ++ member_tokens_of l.key-iterator ≡ l.initial.out.tokens ++ member_tokens_of l.members.entries)
    × ((done : List Entry) × (l.members.entries ≡ done ++ l.key-iterator)
    × (of_members (members_outline (members_data (members_in l.key-iterator))) (members_data (members_in done)) ≡ Some (members_data (members_in l.members.entries)) → MembersReadBack (members_in l.members.entries)))
    × (MembersWhole (members_in l.key-iterator) → MembersWhole (members_in l.members.entries))
