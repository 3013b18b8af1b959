use Rattle.std.proofs.Common.{◌++◌, List, ap, ◌∙◌, arith, ℕ, [], ◌∷◌}
use Rattle.std.proofs.lemmas.Result.{on_ok_weaker}
use Rattle.json.specs.Token.{string}
use Rattle.task_statuses.proofs.MemberLemmas.{text_counted}
use Rattle.task_statuses.proofs.members.write_moment.Goals as goal

pub returns-clause-ok : goal.returns-clause-ok
returns-clause-ok c =
    let within = text_counted c.args.moment in
    on_ok_weaker c.write_to.result
    (λ w. w.2 ∙ ap (λ (text : List ℕ). c.args.out.now.tokens ++ string text ∷ []) (within w.0 (omega (arith, c.millis-millis.ensures.value, c.millis-millis.ensures.within)) w.1))
    c.write_to.ensures.ok
