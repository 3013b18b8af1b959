use Rattle.std.proofs.Common.{◌↔◌, drop}
use Rattle.farm_text.specs.Document.{items_of}
use Rattle.farm_text.specs.Doc.{document, documents}
use Rattle.jsone_values.specs.Operators.{HasItem}
use Rattle.jsone_values.proofs.operators.is_among.Given as goal

-- it is one of them just where it is one of those that are left
abbrev pub invariant-loop-item : goal.invariant-loop-item
invariant-loop-item l = HasItem (document l.value) (items_of (documents l.items)) ↔ HasItem (document l.value) (items_of (documents (drop l.item-index l.items)))
