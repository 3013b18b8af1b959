-- The members of an expression as documents, one after another.
use Rattle.std.proofs.Common.{◌≡◌, List, [], ◌∷◌, map, refl, ap}
use Rattle.scope_sets.specs.declared.expressions.Expr.{Expr}
use Rattle.scope_sets.specs.Expressions.{view, members_of}
use Rattle.farm_text.specs.Document.{Document, item, items_of as items_in}
use Rattle.farm_asks.specs.Expressions.{document_of, items_of}

-- the document of an expression
abbrev pub document_for : Expr → Document
document_for e = document_of (view e)

pub items_of-map : (es : List Expr) → items_in (map document_for es) ≡ items_of (members_of (map view es))
items_of-map [] = refl
items_of-map (e ∷ es) = ap (item (document_for e)) (items_of-map es)
