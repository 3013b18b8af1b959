use Rattle.std.proofs.Common.{map, drop}
use Rattle.farm_text.specs.Document.{text, items_of}
use Rattle.task_defs.proofs.LengthLemmas.{items_size, SoFar}
use Rattle.task_defs.proofs.full_length.routes_bytes.Given as goal

abbrev pub invariant-loop-route : goal.invariant-loop-route
invariant-loop-route l = SoFar l.most (items_size (items_of (map text l.routes))) (items_size (items_of (map text (drop l.route-index l.routes))))
