use Rattle.api_routes.proofs.QueueLemmas.{queue_text}
use Rattle.api_routes.proofs.parts.queue_of.Goals as goal

pub returns-in-Err : goal.returns-in-Err
returns-in-Err c = λ queue. c.in-Err.ensures.cases.0 (queue_text c.args.name.now queue)
