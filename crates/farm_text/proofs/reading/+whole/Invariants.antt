use Rattle.std.proofs.Common.{◌≡◌, ◌+◌, ◌*◌, List, [], ◌++◌, length}
use Rattle.std.specs.Map.{keys_of}
use Rattle.std.specs.Vec.Iter.{into_iter_items}
use Rattle.serde_json.specs.View.{view, items_view, members_view}
use Rattle.serde_json.specs.declared.value.Value.{Value}
use Rattle.farm_text.specs.Document.{items_data, members_data, items_of}
use Rattle.farm_text.specs.Doc.{documents}
use Rattle.farm_text.specs.Reading.{unwhole_items, unwhole_members}
use Rattle.farm_text.proofs.DocLemmas.{members_in}
use Rattle.farm_text.proofs.ReadingLemmas.{ValueEntry, size, items_size, members_size}
use Rattle.farm_text.proofs.reading.+whole.Given as goal

abbrev pub decreases-whole : goal.decreases-whole
decreases-whole l = 2 * size (view l.value)

abbrev pub decreases-whole_items : goal.decreases-whole_items
decreases-whole_items l = 2 * items_size (items_view l.items.items) + 1

abbrev pub decreases-whole_members : goal.decreases-whole_members
decreases-whole_members l = 2 * members_size (members_view l.members.entries) + 1

-- the documents so far are of the items so far, and the rest follow them
abbrev pub invariant-whole_items-items : goal.invariant-whole_items-items
invariant-whole_items-items l =
    (done : List Value) × (l.fn.items.items ≡ done ++ into_iter_items l.item-iterator) × (length l.docs.items ≡ length done)
    × (items_data (items_of (documents l.docs.items)) ≡ items_view done) × (unwhole_items 0 (items_view done) ≡ [])

abbrev pub invariant-whole_members-members : goal.invariant-whole_members-members
invariant-whole_members-members l =
    (done : List ValueEntry) × (l.fn.members.entries ≡ done ++ l.key-iterator) × (keys_of l.docs.entries ≡ keys_of done)
    × (members_data (members_in l.docs.entries) ≡ members_view done) × (unwhole_members (members_view done) ≡ [])
