use Rattle.std.proofs.Common.{List, sym, subst, arith}
use Rattle.farm_text.specs.Doc.{document, documents}
use Rattle.farm_text.specs.declared.doc.Doc.{Doc}
use Rattle.jsone_values.specs.Meets.{MeetsWithin}
use Rattle.jsone_eval.specs.Calls.{IsOfOne, IsOfMany}
use Rattle.jsone_eval.specs.Scopes.{scopes_of}
use Rattle.jsone_eval.proofs.CallLemmas.{made_within, one_argument, two_arguments, three_arguments, other_arguments}
use Rattle.jsone_eval.proofs.calls.of_many.Goals as goal

pub returns-in-len1 : goal.returns-in-len1
returns-in-len1 c =
    let scopes = scopes_of c.args.context.now in
    let x = c.first-item in
    let is = one_argument c.args.arguments.now x.result (omega (arith, c.in-len1.len_at_least, c.in-len1.len_below)) x.is in
    subst (λ (xs : List Doc). MeetsWithin 1000000 (IsOfMany c.args.function scopes (documents xs)) c.made.result) (sym is)
    (made_within 1000000 (IsOfOne c.args.function scopes (document x.result)) c.of_one.result c.made.result c.made.ensures c.of_one.ensures)

pub returns-in-len2 : goal.returns-in-len2
returns-in-len2 c =
    let x = c.first-item-then-arguments-lt3 in
    let y = c.second-item in
    let is = two_arguments c.args.arguments.now x.result y.result (omega (arith, c.in-len2.len_at_least, c.in-len2.len_below)) x.is y.is in
    subst (λ (xs : List Doc). MeetsWithin 1000000 (IsOfMany c.args.function (scopes_of c.args.context.now) (documents xs)) c.of_two.result) (sym is) c.of_two.ensures

pub returns-in-len3 : goal.returns-in-len3
returns-in-len3 c =
    let x = c.first-item-then-arguments-lt4 in
    let y = c.second-item-then-arguments-lt4 in
    let z = c.third-item in
    let is = three_arguments c.args.arguments.now x.result y.result z.result (omega (arith, c.in-len3.len_at_least, c.in-len3.len_below)) x.is y.is z.is in
    subst (λ (xs : List Doc). MeetsWithin 1000000 (IsOfMany c.args.function (scopes_of c.args.context.now) (documents xs)) c.of_three.result) (sym is) c.of_three.ensures

pub returns-in_default : goal.returns-in_default
returns-in_default c = other_arguments c.args.function (scopes_of c.args.context.now) c.args.arguments.now (λ e. omega arith) (λ e. omega arith) (λ e. omega arith)
