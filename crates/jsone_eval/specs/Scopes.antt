-- What names are bound to (JSON-e, "Context").
use Rattle.std.specs.Prelude.{ℕ, List, [], ◌∷◌, Option, Some, None}
use Rattle.farm_text.specs.Document.{Document, get}
use Rattle.farm_text.specs.Doc.{document, documents}
use Rattle.jsone_eval.specs.declared.context.Context.{Context}

abbrev pub instead : Option Document → Option Document → Option Document
instead (Some d) o = Some d
instead None o = o

-- what a name is bound to by maps of which each hides those before it
abbrev pub bound_by : Option Document → List ℕ → List Document → Option Document
bound_by found name [] = found
bound_by found name (d ∷ ds) = bound_by (instead (get name d) found) name ds

abbrev pub bound : List ℕ → List Document → Option Document
bound name scopes = bound_by None name scopes

-- the maps of a context, the outermost first
abbrev pub scopes_of : Context → List Document
scopes_of c = document c.outermost.now ∷ documents c.bindings.items
