use Rattle.std.proofs.Common.{◌≡◌, pos, Some, sym, subst}
use Rattle.farm_text.specs.Document.{Document}
use Rattle.farm_text.specs.Doc.{document}
use Rattle.jsone_values.specs.Meets.{MeetsWithin}
use Rattle.jsone_values.specs.Ranges.{ranged}
use Rattle.jsone_values.specs.Splits.{IsPieces}
use Rattle.jsone_values.proofs.JoinLemmas.{document-Int}
use Rattle.jsone_expr.specs.declared.functions.Function.{Function}
use Rattle.jsone_eval.specs.Calls.{IsFromNowAt, IsOfTwo}
use Rattle.jsone_eval.proofs.CallLemmas.{made_within}
use Rattle.jsone_eval.proofs.calls.of_two.Goals as goal

pub returns-in-Split : goal.returns-in-Split
returns-in-Split c =
    subst (λ (f : Function). MeetsWithin 1000000 (IsOfTwo f (document c.args.first.now) (document c.args.second.now)) c.made.result) (sym c.in-Split.is)
    (made_within 1000000 (IsPieces (document c.args.first.now) (document c.args.second.now)) c.split_of.result c.made.result c.made.ensures c.split_of.ensures)

pub returns-in-Join : goal.returns-in-Join
returns-in-Join c = subst (λ (f : Function). MeetsWithin 1000000 (IsOfTwo f (document c.args.first.now) (document c.args.second.now)) c.join_of.result) (sym c.in-Join.is) c.join_of.ensures

pub returns-in-Range : goal.returns-in-Range
returns-in-Range c =
    subst (λ (f : Function). MeetsWithin 1000000 (IsOfTwo f (document c.args.first.now) (document c.args.second.now)) c.range_of.result) (sym c.in-Range.is)
    (subst (λ (d : Document). MeetsWithin 1000000 (λ r. r ≡ ranged (document c.args.first.now) (document c.args.second.now) d) c.range_of.result) (document-Int (pos 1)) c.range_of.ensures)

pub returns-in-FromNow : goal.returns-in-FromNow
returns-in-FromNow c =
    subst (λ (f : Function). MeetsWithin 1000000 (IsOfTwo f (document c.args.first.now) (document c.args.second.now)) c.made-in-FromNow.result) (sym c.in-FromNow.is)
    (made_within 1000000 (IsFromNowAt (document c.args.first.now) (Some (document c.args.second.now))) c.from_now.result c.made-in-FromNow.result c.made-in-FromNow.ensures c.from_now.ensures)
