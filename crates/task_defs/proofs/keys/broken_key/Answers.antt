use Rattle.std.proofs.Common.{ap, ◌∙◌}
use Rattle.farm_text.specs.Doc.{document}
use Rattle.farm_text.proofs.DocLemmas.{document-Map}
use Rattle.task_defs.proofs.KeyLemmas.{keys_of_map}
use Rattle.task_defs.proofs.keys.broken_key.Goals as goal

pub returns : goal.returns
returns c =
    keys_of_map (document c.args.doc.now) c.in-Map.members.entries c.first_unfit.result c.first_missing.result c.lesser.result (ap document c.in-Map.is ∙ document-Map c.in-Map.members) c.first_unfit.ensures
    c.first_missing.ensures c.lesser.ensures
