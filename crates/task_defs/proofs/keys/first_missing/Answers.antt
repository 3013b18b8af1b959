use Rattle.farm_text.specs.Doc.{document}
use Rattle.task_defs.proofs.KeyLemmas.{required_missing}
use Rattle.task_defs.proofs.keys.first_missing.Goals as goal

pub returns : goal.returns
returns c = required_missing (document c.args.doc.now) c.missing_key.result c.missing_key.ensures
