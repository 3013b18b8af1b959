use Rattle.dep_graph.proofs.PlaceLemmas.{knows-none}
use Rattle.dep_graph.proofs.tasks.Tasks.new.Goals as goal

pub invariant_of-result : goal.invariant_of-result
invariant_of-result c = knows-none c.new.result.items c.new-2.result c.new.ensures.items c.new-2.ensures.empty
