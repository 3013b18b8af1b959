use Rattle.farm_core.proofs.ImageLemmas.{images-sound}
use Rattle.farm_core.proofs.laws.images_are_never_damaged.Goals as goal

pub returns : goal.returns
returns g c = λ told disk. images-sound c.a_record_is_of_one_change.ensures g.D.Disk.tells told (g.D.Disk.contents disk)
