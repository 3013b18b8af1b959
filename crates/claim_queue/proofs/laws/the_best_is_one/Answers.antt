use Rattle.claim_queue.proofs.LeastLemmas.{best-is, best-one}
use Rattle.claim_queue.proofs.laws.the_best_is_one.Goals as goal

pub returns-clause-least : goal.returns-clause-least
returns-clause-least c = best-is

pub returns-clause-one : goal.returns-clause-one
returns-clause-one c = best-one
