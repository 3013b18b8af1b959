use Rattle.dep_graph.proofs.TaskLemmas.{moved-none}
use Rattle.dep_graph.proofs.moves.proceed.Goals as goal

pub returns-in-None-clause-tasks : goal.returns-in-None-clause-tasks
returns-in-None-clause-tasks c = moved-none c.args.row c.args.progress c.args.tasks.now.tasks c.in-None.ensures.none
