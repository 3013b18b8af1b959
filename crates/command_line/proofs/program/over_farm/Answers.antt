use Rattle.std.proofs.lemmas.Result.{IfOk-weaker}
use Rattle.command_line.proofs.OptionLemmas.{with_one}
use Rattle.command_line.proofs.program.over_farm.Goals as goal

pub returns : goal.returns
returns c = IfOk-weaker c.arg.result _ _ (λ more adds. with_one _ _ _ _ _ c.bare.ensures c.farm_file.ensures.rule c.farm_file.ensures.local adds) c.arg.ensures
