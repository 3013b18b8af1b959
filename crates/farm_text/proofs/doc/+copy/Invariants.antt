use Rattle.std.proofs.Common.{◌≡◌, List, ◌++◌, take}
use Rattle.farm_text.specs.Doc.{documents}
use Rattle.farm_text.proofs.DocLemmas.{Entry, members_in}
use Rattle.farm_text.proofs.doc.+copy.Given as goal

abbrev pub invariant-copy_items-loop-item : goal.invariant-copy_items-loop-item
invariant-copy_items-loop-item l = documents l.copies.items ≡ documents (take l.item-index l.item-items)

abbrev pub invariant-copy_members-loop-key : goal.invariant-copy_members-loop-key
invariant-copy_members-loop-key l =
    (done : List Entry) × (l.members.entries ≡ done ++ l.key-iterator) × (members_in l.copies.entries ≡ members_in done)
