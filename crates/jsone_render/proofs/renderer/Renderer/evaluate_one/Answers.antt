use Rattle.std.proofs.Common.{[], ◌∷◌, ◌∙◌}
use Rattle.farm_text.specs.Doc.{document}
use Rattle.jsone_eval.specs.Scopes.{scopes_of}
use Rattle.jsone_render.specs.Answers.{names_in}
use Rattle.jsone_render.specs.Bindings.{bound_to}
use Rattle.jsone_render.proofs.SearchLemmas.{kept_same}
use Rattle.jsone_render.proofs.renderer.Renderer.evaluate_one.Goals as goal

pub returns-clause-scopes : goal.returns-clause-scopes
returns-clause-scopes c =
    let before = scopes_of c.args.self.now.context in
    let more = bound_to (names_in c.args.names) (document c.args.value ∷ []) in
    kept_same c.evaluate_reading-found.result before (scopes_of c.release.new.self.context)
    (c.release.ensures.scopes before more (c.evaluate_reading-found.ensures.scopes ∙ c.in_ok-bind_one.ensures.scopes) c.height-height.ensures)
