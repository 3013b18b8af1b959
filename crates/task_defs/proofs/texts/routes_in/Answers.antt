use Rattle.std.proofs.Common.{sym, ◌∙◌}
use Rattle.task_types.specs.Forms.{IsRoute}
use Rattle.farm_text.specs.Doc.{document}
use Rattle.task_defs.proofs.TextLemmas.{list_ill, texts_in_list}
use Rattle.task_defs.proofs.texts.routes_in.Goals as goal

pub returns-in-Some-2 : goal.returns-in-Some-2
returns-in-Some-2 c =
    let texts = rw c.in-Some.is at c.in_ok-texts.ensures in
    let found = rw c.deref.ensures.value at (rw c.in-Some-2.is at c.in_ok-routes.ensures) in
    ((_, texts, found.0), c.from_list.ensures ∙ found.1 ∙ sym (texts_in_list _ _ texts.is))

pub returns : goal.returns
returns c =
    let texts = rw c.in-Some.is at c.in_ok-texts.ensures in
    let fails = rw c.deref.ensures.value at (rw c.in-None-2.is at c.in_ok-routes.ensures) in
    list_ill 64 IsRoute (document c.args.value.now) _ texts fails
