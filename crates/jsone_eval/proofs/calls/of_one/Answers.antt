use Rattle.std.proofs.Common.{Option, sym, subst}
use Rattle.farm_text.specs.Document.{Document}
use Rattle.farm_text.specs.Doc.{document}
use Rattle.jsone_values.specs.Meets.{Meets}
use Rattle.jsone_expr.specs.declared.functions.Function.{Function}
use Rattle.jsone_eval.specs.Calls.{IsFromNowAt, IsOfOne}
use Rattle.jsone_eval.specs.Scopes.{scopes_of}
use Rattle.jsone_eval.proofs.calls.of_one.Goals as goal

pub returns-in-FromNow : goal.returns-in-FromNow
returns-in-FromNow c =
    subst (λ (f : Function). Meets (IsOfOne f (scopes_of c.args.context.now) (document c.args.value.now)) c.from_now.result) (sym c.in-FromNow.is)
    (subst (λ (o : Option Document). Meets (IsFromNowAt (document c.args.value.now) o) c.from_now.result) c.get.ensures c.from_now.ensures)
