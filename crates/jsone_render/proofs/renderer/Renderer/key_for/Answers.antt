use Rattle.std.proofs.Common.{◌∷◌, ◌++◌, [], subst}
use Rattle.farm_text.specs.Document.{Document}
use Rattle.farm_text.specs.Doc.{document}
use Rattle.jsone_eval.specs.Scopes.{scopes_of}
use Rattle.jsone_render.specs.Answers.{Answers, names_in}
use Rattle.jsone_render.specs.Bindings.{bound_to}
use Rattle.jsone_render.specs.Expressions.{Evaluated}
use Rattle.jsone_render.proofs.renderer.Renderer.key_for.Goals as goal

pub returns-in-Ok-clause-answers : goal.returns-in-Ok-clause-answers
returns-in-Ok-clause-answers c =
    subst (λ (x : Document). Answers document (Evaluated c.args.reading.now (scopes_of c.args.self.now.context ++ bound_to (names_in c.args.names) (x ∷ [])) c.args.self.now.cost.spent) c.evaluate_one.result c.evaluate_one.new.self.cost.spent) c.in-Ok.ensures.cases c.evaluate_one.ensures.answers
