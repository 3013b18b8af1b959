use Rattle.std.proofs.Common.{◌≡◌, ◌↔◌, drop}
use Rattle.std.specs.Slice.Iter.{iter_rest}
use Rattle.farm_text.specs.Document.{items_of, members_of}
use Rattle.farm_text.specs.Doc.{documents, entries_of}
use Rattle.farm_text.proofs.same.+same.Given as goal

abbrev pub invariant-same_items-loop-item : goal.invariant-same_items-loop-item
invariant-same_items-loop-item l =
    (items_of (documents l.item-items) ≡ items_of (documents l.b.items)) ↔ (items_of (documents (drop l.item-index l.item-items)) ≡ items_of (documents (iter_rest l.others)))

abbrev pub invariant-same_members-loop-key : goal.invariant-same_members-loop-key
invariant-same_members-loop-key l =
    (members_of (entries_of l.a.entries) ≡ members_of (entries_of l.b.entries)) ↔ (members_of (entries_of l.key-iterator) ≡ members_of (entries_of l.others))
