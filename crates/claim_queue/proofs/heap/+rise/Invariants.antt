use Rattle.claim_queue.proofs.heap.+rise.Given as goal

abbrev pub decreases-rise : goal.decreases-rise
decreases-rise g l = l.place
