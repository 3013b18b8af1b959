use Rattle.std.proofs.Common.{◌≡◌, map, take}
use Rattle.farm_text.specs.Document.{text}
use Rattle.farm_text.specs.Doc.{documents}
use Rattle.task_defs.proofs.texts.texts_of.Given as goal

abbrev pub invariant-loop-item : goal.invariant-loop-item
invariant-loop-item l = documents (take l.item-index l.item-items) ≡ map text (map (λ t. t.now) l.texts.items)
