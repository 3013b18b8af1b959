use Rattle.std.proofs.Common.{◌∙◌, refl}
use Rattle.std.proofs.lemmas.Bool.{false≢true}
use Rattle.farm_files.proofs.RowLemmas.{not_printable, scopes_more, printable_more}
use Rattle.farm_files.proofs.scopes.scopes_of.Goals as goal

pub returns-in-None : goal.returns-in-None
returns-in-None c =
    not_printable c.args.texts.now c.loop-text.text-index _ _ c.loop-text-test.true c.in_ok-from_str.ensures.ok (λ p. false≢true (c.in-None.ensures.printable.1 p))

pub loop-text-preserved : goal.loop-text-preserved
loop-text-preserved c = (
  scopes_more c.args.texts.now c.loop-text.text-index _ _ _ _ c.loop-text-test.true c.in_ok-push-in-Some.ensures.items c.loop-text.invariant.0 (c.in-Some.ensures.value ∙ c.in_ok-from_str.ensures.ok),
  printable_more c.args.texts.now c.loop-text.text-index _ _ c.loop-text-test.true c.in_ok-from_str.ensures.ok (c.in-Some.ensures.printable.0 refl) c.loop-text.invariant.1,
)
