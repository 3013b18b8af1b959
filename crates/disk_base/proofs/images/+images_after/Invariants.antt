use Rattle.std.proofs.Common.{length}
use Rattle.disk_base.proofs.images.+images_after.Given as goal

abbrev pub decreases-images_after : goal.decreases-images_after
decreases-images_after l = length l.steps.now
