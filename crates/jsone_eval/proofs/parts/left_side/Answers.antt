use Rattle.std.proofs.Common.{sym, ap, ◌∙◌}
use Rattle.jsone_values.specs.Truth.{is_true}
use Rattle.jsone_eval.specs.Operators.{decides}
use Rattle.jsone_eval.proofs.PartLemmas.{document-Null, top_is_last, top_is_null}
use Rattle.jsone_eval.proofs.parts.left_side.Goals as goal

pub returns-in-Some : goal.returns-in-Some
returns-in-Some c =
    let last = top_is_last c.args.values.now c.in-Some.left.now (sym c.in-Some.ensures.value) in
    record { decided = c.decides.ensures ∙ ap (decides c.args.operator) (sym last); truth = c.is_true.ensures ∙ ap is_true (sym last) }

pub returns-in-None : goal.returns-in-None
returns-in-None c =
    let last = top_is_null c.args.values.now (sym c.in-None.ensures.value) in
    record { decided = c.decides-in-None.ensures ∙ ap (decides c.args.operator) (document-Null ∙ sym last); truth = ap is_true (sym last) }
