use Rattle.std.proofs.Common.{refl}
use Rattle.task_defs.specs.Values.{IsScope}
use Rattle.task_defs.proofs.TextLemmas.{form_fails, forms_more, items_more, past_end}
use Rattle.task_defs.proofs.texts.scopes_of.Goals as goal

pub returns-in-None : goal.returns-in-None
returns-in-None c = form_fails IsScope c.args.texts.now c.loop-text.text-index past_end _ c.loop-text-test.true refl (rw c.in-None.is at c.in_ok-scope.ensures)

pub loop-text-preserved : goal.loop-text-preserved
loop-text-preserved c =
    let found = rw c.in-Some.is at c.in_ok-scope.ensures in (
      items_more c.args.texts.now c.loop-text.text-index past_end _ _ _ _ c.loop-text-test.true c.in_ok-push-in-Some.ensures.items c.loop-text.invariant.0 found.1 refl,
      forms_more IsScope c.args.texts.now c.loop-text.text-index past_end _ c.loop-text-test.true refl found.0 c.loop-text.invariant.1,
    )
