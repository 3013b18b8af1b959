use Rattle.std.proofs.Common.{Option, sym, subst}
use Rattle.farm_text.specs.Document.{Document}
use Rattle.farm_text.specs.Doc.{document}
use Rattle.jsone_eval.specs.Scopes.{scopes_of}
use Rattle.jsone_render.specs.declared.faults.RenderFault.{RenderFault}
use Rattle.jsone_render.specs.Answers.{Answers}
use Rattle.jsone_render.specs.Expressions.{Evaluated, OfText, ValueAt}
use Rattle.jsone_render.proofs.KindLemmas.{no_text}
use Rattle.std.proofs.Common.{Err}
use Rattle.farm_text.proofs.DocLemmas.{members_in}
use Rattle.farm_text.specs.Document.{member_at}
use Rattle.jsone_render.proofs.renderer.Renderer.value_at.Goals as goal

pub returns-in-Some-clause-answers : goal.returns-in-Some-clause-answers
returns-in-Some-clause-answers c =
    let scopes = scopes_of c.args.self.now.context in
    let spent = c.args.self.now.cost.spent in
    subst (λ (x : Option Document). Answers document (OfText x (λ source. Evaluated source scopes spent)) c.evaluate.result c.evaluate.new.self.cost.spent) (sym c.in-Some.ensures) c.evaluate.ensures.answers

pub returns-in-None-clause-answers : goal.returns-in-None-clause-answers
returns-in-None-clause-answers c =
    let scopes = scopes_of c.args.self.now.context in
    let spent = c.args.self.now.cost.spent in
    let ms = members_in c.args.members.now.entries in
    subst (λ (f : RenderFault). Answers document (ValueAt c.args.key.now ms scopes spent) (Err f) spent) (sym c.here.ensures) (no_text (member_at c.args.key.now ms) (λ source. Evaluated source scopes spent) c.in-None.ensures)
