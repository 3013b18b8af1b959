use Rattle.farm_text.specs.Doc.{document}
use Rattle.task_defs.proofs.DefinitionLemmas.{says, too_long}
use Rattle.task_defs.proofs.reading.read_task.Goals as goal

pub returns-then-long : goal.returns-then-long
returns-then-long c = too_long (document c.args.doc.now) c.args.id _ _ c.in-Ok.ensures (rw c.if-long.true at c.in-Ok-is_too_long.ensures) c.at.ensures

pub returns-else-long : goal.returns-else-long
returns-else-long c =
    let parts = c.in-Ok.ensures in
    (says (document c.args.doc.now) c.args.id _ parts (rw c.if-long.false at c.in-Ok-is_too_long.ensures), λ other h. parts.only other h.definition)
