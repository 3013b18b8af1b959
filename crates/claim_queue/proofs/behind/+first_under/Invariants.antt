use Rattle.std.proofs.Common.{length, ◌-◌}
use Rattle.claim_queue.proofs.behind.+first_under.Given as goal

abbrev pub decreases-first_under : goal.decreases-first_under
decreases-first_under g l = length l.heap.now - l.place
