use Rattle.std.proofs.Common.{length}
use Rattle.disk_base.proofs.images.+read_steps.Given as goal

abbrev pub decreases-read_steps : goal.decreases-read_steps
decreases-read_steps l = length l.steps.now
