use Rattle.std.proofs.Common.{map, drop}
use Rattle.farm_text.specs.Document.{text, items_of}
use Rattle.task_defs.proofs.LengthLemmas.{items_size, SoFar}
use Rattle.task_defs.proofs.full_length.scopes_bytes.Given as goal

abbrev pub invariant-loop-scope : goal.invariant-loop-scope
invariant-loop-scope l = SoFar l.most (items_size (items_of (map text l.scopes))) (items_size (items_of (map text (drop l.scope-index l.scopes))))
