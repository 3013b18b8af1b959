use Rattle.std.proofs.Common.{◌≤◌, ◌+◌, length, ap, arith}
use Rattle.std.proofs.lemmas.List.{at_drop_all}
use Rattle.farm_text.specs.Document.{items_of, members_of, array, document_text}
use Rattle.farm_text.specs.Doc.{documents, entries_of}
use Rattle.task_defs.proofs.LengthLemmas.{items_size, members_size, list_size, map_size, all_seen}
use Rattle.task_defs.proofs.lengths.+bytes.Goals as goal

pub items_bytes-returns : goal.items_bytes-returns
items_bytes-returns t c =
    let items = c.deref-item-items.result.now in
    let fits : length (document_text (array (items_of (documents c.args.items.now.items)))) ≤ 1 + items_size (items_of (documents items)) =
    rw c.deref-item-items.ensures.value (list_size (items_of (documents c.args.items.now.items))) in
    all_seen c.loop-item.most (items_size (items_of (documents items))) _ _ fits
    (at_drop_all (λ ds. items_size (items_of (documents ds))) items c.loop-item.item-index (omega (arith, c.loop-item-test.false))) c.loop-item.invariant

pub members_bytes-returns : goal.members_bytes-returns
members_bytes-returns t c =
    let members = c.args.members.now.entries in
    all_seen c.loop-key.most (members_size (members_of (entries_of members))) _ _ (map_size (members_of (entries_of members)))
    (ap (λ es. members_size (members_of (entries_of es))) c.in-None.ensures.steps.0) c.loop-key.invariant
