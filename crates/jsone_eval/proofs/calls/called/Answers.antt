use Rattle.std.proofs.Common.{Option, sym, subst}
use Rattle.farm_text.specs.Doc.{documents}
use Rattle.jsone_values.specs.Meets.{MeetsWithin}
use Rattle.jsone_expr.specs.declared.functions.Function.{Function}
use Rattle.jsone_eval.specs.Calls.{IsCall}
use Rattle.jsone_eval.specs.Scopes.{scopes_of}
use Rattle.jsone_eval.proofs.calls.called.Goals as goal

pub returns-in-Some : goal.returns-in-Some
returns-in-Some c = subst (λ (f : Option Function). MeetsWithin 1000000 (IsCall f (scopes_of c.args.context.now) (documents c.args.arguments.now)) c.of_function.result) (sym c.in-Some.is) c.of_function.ensures
