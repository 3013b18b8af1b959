use Rattle.std.proofs.Common.{length, ◌-◌}
use Rattle.claim_queue.proofs.heap.+sink.Given as goal

abbrev pub decreases-sink : goal.decreases-sink
decreases-sink g l = length l.heap.now - l.place
