use Rattle.std.proofs.Common.{◌∷◌, ◌++◌, [], Bool, subst}
use Rattle.farm_text.specs.Document.{Document}
use Rattle.farm_text.specs.Doc.{document}
use Rattle.jsone_eval.specs.Scopes.{scopes_of}
use Rattle.jsone_render.specs.Answers.{Answers, Tested, names_in}
use Rattle.jsone_render.specs.Bindings.{bound_to}
use Rattle.jsone_render.proofs.renderer.Renderer.holds_for.Goals as goal

pub returns-in-Ok-clause-answers : goal.returns-in-Ok-clause-answers
returns-in-Ok-clause-answers c =
    subst (λ (x : Document). Answers (λ (b : Bool). b) (Tested c.args.reading.now (scopes_of c.args.self.now.context ++ bound_to (names_in c.args.names) (x ∷ document c.args.index ∷ [])) c.args.self.now.cost.spent) c.is_true_where.result c.is_true_where.new.self.cost.spent) c.in-Ok.ensures.cases c.is_true_where.ensures.answers
