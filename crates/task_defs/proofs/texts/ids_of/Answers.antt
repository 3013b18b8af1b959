use Rattle.std.proofs.Common.{refl}
use Rattle.std.proofs.lemmas.Bool.{false≢true}
use Rattle.farm_text.specs.Slug.{IsSlug}
use Rattle.task_defs.proofs.TextLemmas.{form_fails, forms_more, ids_more}
use Rattle.task_defs.proofs.texts.ids_of.Goals as goal

pub returns-in-None : goal.returns-in-None
returns-in-None c =
    form_fails IsSlug c.args.texts.now c.loop-text.text-index _ _ c.loop-text-test.true c.as_bytes.ensures.value (λ p. false≢true (c.in-None.ensures.valid.1 p))

pub loop-text-preserved : goal.loop-text-preserved
loop-text-preserved c = (
  ids_more c.args.texts.now c.loop-text.text-index _ _ _ _ _ c.loop-text-test.true c.in_ok-push-in-Some.ensures.items c.loop-text.invariant.0 c.in-Some.ensures.exact c.as_bytes.ensures.value,
  forms_more IsSlug c.args.texts.now c.loop-text.text-index _ _ c.loop-text-test.true c.as_bytes.ensures.value (c.in-Some.ensures.valid.0 refl) c.loop-text.invariant.1,
)
