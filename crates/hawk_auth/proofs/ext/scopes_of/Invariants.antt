use Rattle.std.proofs.Common.{◌≡◌, take}
use Rattle.std.specs.Prelude.{map, All}
use Rattle.farm_text.specs.Document.{text}
use Rattle.farm_text.specs.Doc.{documents}
use Rattle.hawk_auth.specs.Ext.{IsScope}
use Rattle.hawk_auth.proofs.ext.scopes_of.Given as goal

abbrev pub invariant-loop-item : goal.invariant-loop-item
invariant-loop-item l = (documents (take l.item-index l.items) ≡ map text l.scopes.items) × All IsScope l.scopes.items
