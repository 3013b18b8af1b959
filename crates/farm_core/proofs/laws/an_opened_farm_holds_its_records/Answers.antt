use Rattle.farm_core.proofs.HoldLemmas.{holds-opened}
use Rattle.farm_core.proofs.laws.an_opened_farm_holds_its_records.Goals as goal

pub returns : goal.returns
returns g c = λ file disk end count config contents opened.
    holds-opened g.D.Disk.tells file (g.D.Disk.contents disk) end count (g.D.Disk.faults disk) config contents opened
