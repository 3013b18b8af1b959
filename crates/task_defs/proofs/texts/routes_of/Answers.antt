use Rattle.std.proofs.Common.{refl}
use Rattle.std.proofs.lemmas.Bool.{false≢true}
use Rattle.task_types.specs.Forms.{IsRoute}
use Rattle.task_defs.proofs.TextLemmas.{form_fails, forms_more, items_more}
use Rattle.task_defs.proofs.texts.routes_of.Goals as goal

pub returns-in-None : goal.returns-in-None
returns-in-None c =
    form_fails IsRoute c.args.texts.now c.loop-text.text-index _ _ c.loop-text-test.true c.in_ok-from_str.ensures (λ p. false≢true (c.in-None.ensures.form.1 p))

pub loop-text-preserved : goal.loop-text-preserved
loop-text-preserved c = (
  items_more c.args.texts.now c.loop-text.text-index _ _ _ _ _ c.loop-text-test.true c.in_ok-push-in-Some.ensures.items c.loop-text.invariant.0 c.in-Some.ensures.value c.in_ok-from_str.ensures,
  forms_more IsRoute c.args.texts.now c.loop-text.text-index _ _ c.loop-text-test.true c.in_ok-from_str.ensures (c.in-Some.ensures.form.0 refl) c.loop-text.invariant.1,
)
