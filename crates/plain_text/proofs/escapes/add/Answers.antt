use Rattle.plain_text.proofs.escapes.add.Goals as goal

pub returns-clause-kept : goal.returns-clause-kept
returns-clause-kept c all = c.in_ok-push-5.ensures.kept (c.in_ok-push-4.ensures.kept (c.in_ok-push-3.ensures.kept (c.in_ok-push-2.ensures.kept all)))
