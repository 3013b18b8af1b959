use Rattle.farm_text.specs.Doc.{document}
use Rattle.task_defs.proofs.KeyLemmas.{has_created, has_deadline}
use Rattle.task_defs.proofs.times.read_times.Goals as goal

pub value-requires : goal.value-requires
value-requires c = has_created (document c.args.doc.now) c.requires

pub value-requires-2 : goal.value-requires-2
value-requires-2 c = has_deadline (document c.args.doc.now) c.requires
