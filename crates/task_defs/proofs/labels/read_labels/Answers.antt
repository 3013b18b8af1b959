use Rattle.farm_text.specs.Doc.{document}
use Rattle.task_defs.proofs.KeyLemmas.{has_metadata}
use Rattle.task_defs.proofs.labels.read_labels.Goals as goal

pub value-requires : goal.value-requires
value-requires c = has_metadata (document c.args.doc.now) c.requires
