use Rattle.farm_cli.proofs.FarmFileLemmas.{HasFault-too_long}
use Rattle.farm_cli.proofs.farm_file.read_config.Goals as goal

pub returns-in-Ok-None-clause-taken : goal.returns-in-Ok-None-clause-taken
returns-in-Ok-None-clause-taken g c =
    let long = rw c.in-Ok-None.field-0-is at rw c.in-Ok-None.is at c.read_source-file.ensures.whole in
    let same = rw c.in-Ok-None.is at c.read_source-file.ensures.same_reads in
    rw c.too_long.ensures (HasFault-too_long _ long, same)
