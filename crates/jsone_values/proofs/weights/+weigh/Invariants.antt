use Rattle.std.proofs.Common.{◌≡◌, ◌+◌, ◌≤◌, min, drop}
use Rattle.farm_text.specs.Document.{items_of, members_of}
use Rattle.farm_text.specs.Doc.{documents, entries_of}
use Rattle.jsone_values.specs.Weights.{items_weight, members_weight}
use Rattle.jsone_values.proofs.weights.+weigh.Given as goal

-- with what is left it is the whole weight
abbrev pub invariant-items_weight-loop-item : goal.invariant-items_weight-loop-item
invariant-items_weight-loop-item l = record {
  whole : min (l.total + items_weight (items_of (documents (drop l.item-index l.item-items)))) 18446744073709551615 ≡ min (items_weight (items_of (documents l.item-items))) 18446744073709551615;
  small : l.total ≤ 18446744073709551615;
}

abbrev pub invariant-members_weight-loop-key : goal.invariant-members_weight-loop-key
invariant-members_weight-loop-key l = record {
  whole : min (l.total + members_weight (members_of (entries_of l.key-iterator))) 18446744073709551615 ≡ min (members_weight (members_of (entries_of l.members.entries))) 18446744073709551615;
  small : l.total ≤ 18446744073709551615;
}
