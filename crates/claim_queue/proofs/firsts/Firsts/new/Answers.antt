use Rattle.std.proofs.Common.{ap}
use Rattle.claim_queue.specs.Waits.{Waits}
use Rattle.claim_queue.specs.Walks.{Walk}
use Rattle.claim_queue.proofs.WalkLemmas.{left-all}
use Rattle.claim_queue.proofs.firsts.Firsts.new.Goals as goal

pub returns : goal.returns
returns c = ap (λ (w : Waits). let walk : Walk = record { name = c.args.name.now; all = c.args.pending.now; left = w } in walk) (left-all c.args.name.now c.args.pending.now)
