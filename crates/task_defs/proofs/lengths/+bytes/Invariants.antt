use Rattle.std.proofs.Common.{drop}
use Rattle.farm_text.specs.Document.{items_of, members_of}
use Rattle.farm_text.specs.Doc.{documents, entries_of}
use Rattle.task_defs.proofs.LengthLemmas.{items_size, members_size, SoFar}
use Rattle.task_defs.proofs.lengths.+bytes.Given as goal

abbrev pub invariant-items_bytes-loop-item : goal.invariant-items_bytes-loop-item
invariant-items_bytes-loop-item l =
    SoFar l.most (items_size (items_of (documents l.item-items))) (items_size (items_of (documents (drop l.item-index l.item-items))))

abbrev pub invariant-members_bytes-loop-key : goal.invariant-members_bytes-loop-key
invariant-members_bytes-loop-key l =
    SoFar l.most (members_size (members_of (entries_of l.members.entries))) (members_size (members_of (entries_of l.key-iterator)))
