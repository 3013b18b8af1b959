use Rattle.farm_cli.proofs.RunLemmas.{RanCommand-opened}
use Rattle.farm_cli.proofs.run.run_over_farm.Goals as goal

pub returns-in-Ok-clause-ran : goal.returns-in-Ok-clause-ran
returns-in-Ok-clause-ran g c =
    let ran = c.run_over_file.ensures.ran in
    RanCommand-opened _ _ (g.H.House.lends c.farm_file.new.self) _ _ (g.H.House.refusals c.farm_file.new.self) _ _ _ c.in-Ok.file ran.0 _ c.in-Ok.ensures.cause.kept c.in-Ok.ensures.opens c.in-Ok.ensures.lends ran.1 ran.2 ran.3
