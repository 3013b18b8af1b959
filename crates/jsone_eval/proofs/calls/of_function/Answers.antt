use Rattle.std.proofs.Common.{◌≡◌, sym, subst}
use Rattle.std.specs.Int.{int_min, int_max}
use Rattle.farm_text.specs.Doc.{documents}
use Rattle.jsone_values.specs.Lists.{picked}
use Rattle.jsone_values.specs.Meets.{MeetsWithin}
use Rattle.jsone_expr.specs.declared.functions.Function.{Function}
use Rattle.jsone_eval.specs.Calls.{IsCalled}
use Rattle.jsone_eval.specs.Scopes.{scopes_of}
use Rattle.jsone_eval.proofs.CallLemmas.{made_within, other_function}
use Rattle.jsone_eval.proofs.calls.of_function.Goals as goal

pub returns-in-Min : goal.returns-in-Min
returns-in-Min c =
    subst (λ (f : Function). MeetsWithin 1000000 (IsCalled f (scopes_of c.args.context.now) (documents c.args.arguments.now)) c.made.result) (sym c.in-Min.is)
    (made_within 1000000 (λ r. r ≡ picked int_min (documents c.args.arguments.now)) c.least_of.result c.made.result c.made.ensures c.least_of.ensures)

pub returns-in-Max : goal.returns-in-Max
returns-in-Max c =
    subst (λ (f : Function). MeetsWithin 1000000 (IsCalled f (scopes_of c.args.context.now) (documents c.args.arguments.now)) c.made-in-Max.result) (sym c.in-Max.is)
    (made_within 1000000 (λ r. r ≡ picked int_max (documents c.args.arguments.now)) c.greatest_of.result c.made-in-Max.result c.made-in-Max.ensures c.greatest_of.ensures)

pub returns-in_default : goal.returns-in_default
returns-in_default c = other_function c.args.function (scopes_of c.args.context.now) (documents c.args.arguments.now) c.of_many.result c.in_default.not-Min c.in_default.not-Max c.of_many.ensures
