use Rattle.farm_core.proofs.StopLemmas.{sound-empty, asking-stops, asking-leaves, opening-stops}
use Rattle.farm_core.proofs.laws.stops_are_never_damaged.Goals as goal

pub returns : goal.returns
returns g c =
    let one = c.a_record_is_of_one_change.ensures in
    record {
      empty = sound-empty one;
      asks = λ told disk after. asking-stops one g.D.Disk.tells told (g.D.Disk.contents disk) (g.D.Disk.contents after);
      inside = λ told disk after. asking-leaves one g.D.Disk.tells told (g.D.Disk.contents disk) (g.D.Disk.contents after);
      openings = λ told disk after. opening-stops one (g.D.Disk.contents disk) (g.D.Disk.contents after);
    }
