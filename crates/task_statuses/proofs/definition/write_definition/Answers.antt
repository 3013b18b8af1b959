use Rattle.std.proofs.Common.{arith}
use Rattle.task_statuses.proofs.DefinitionLemmas.{full-form-written}
use Rattle.task_statuses.proofs.definition.write_definition.Goals as goal

pub returns-clause-ok : goal.returns-clause-ok
returns-clause-ok c =
    full-form-written c.args.definition.now c.write_full_text.result c.args.out.now.tokens c.write_full_text.new.out.tokens
    (omega (arith, c.millis-created.ensures.value, c.millis-created.ensures.within))
    (omega (arith, c.millis-deadline.ensures.value, c.millis-deadline.ensures.within))
    (omega (arith, c.millis-expires.ensures.value, c.millis-expires.ensures.within))
    c.write_full_text.ensures.form
