use Rattle.claim_queue.proofs.LeastLemmas.{first-due-is, first-due-one}
use Rattle.claim_queue.proofs.laws.the_first_due_is_one.Goals as goal

pub returns-clause-least : goal.returns-clause-least
returns-clause-least c = first-due-is

pub returns-clause-one : goal.returns-clause-one
returns-clause-one c = first-due-one
