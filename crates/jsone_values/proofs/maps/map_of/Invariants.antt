use Rattle.std.proofs.Common.{◌≡◌}
use Rattle.std.specs.Vec.Iter.{into_iter_items}
use Rattle.farm_text.specs.Document.{members_of}
use Rattle.farm_text.specs.Doc.{entries_of}
use Rattle.jsone_values.specs.Maps.{map_of, map_with}
use Rattle.jsone_values.proofs.maps.map_of.Given as goal

abbrev pub invariant-loop-key : goal.invariant-loop-key
invariant-loop-key l = map_with (members_of (entries_of l.map.entries)) (entries_of (into_iter_items l.key-iterator)) ≡ map_of (entries_of l.fn.members.items)
