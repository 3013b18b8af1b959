use Rattle.std.proofs.Common.{◌∙◌}
use Rattle.farm_files.proofs.earlier.has_id.Goals as goal

pub returns : goal.returns
returns c = λ used are. c.contains.ensures ∙ are c.args.id.now
