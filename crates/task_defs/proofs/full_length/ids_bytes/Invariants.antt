use Rattle.std.proofs.Common.{map, drop}
use Rattle.farm_text.specs.Slug.{slug_text}
use Rattle.farm_text.specs.Document.{text, items_of}
use Rattle.task_defs.proofs.LengthLemmas.{items_size, SoFar}
use Rattle.task_defs.proofs.full_length.ids_bytes.Given as goal

abbrev pub invariant-loop-id : goal.invariant-loop-id
invariant-loop-id l = SoFar l.most (items_size (items_of (map text (map slug_text l.ids)))) (items_size (items_of (map text (map slug_text (drop l.id-index l.ids)))))
