use Rattle.std.proofs.Common.{◌≡◌, drop, option_map}
use Rattle.farm_text.specs.Doc.{document, documents}
use Rattle.jsone_eval.specs.Scopes.{bound_by, bound, scopes_of}
use Rattle.jsone_eval.proofs.context.Context.get.Given as goal

abbrev pub invariant-loop-binding : goal.invariant-loop-binding
invariant-loop-binding l = bound_by (option_map (λ d. document d.now) l.found) l.name (documents (drop l.binding-index l.binding-items)) ≡ bound l.name (scopes_of l.self)
