use Rattle.std.proofs.Common.{sym}
use Rattle.dep_graph.specs.Nodes.{rows_of}
use Rattle.dep_graph.proofs.EdgeLemmas.{at-in}
use Rattle.dep_graph.proofs.tasks.Tasks.holds.Goals as goal

pub returns-in-Some : goal.returns-in-Some
returns-in-Some c = sym (at-in (rows_of c.args.self.now.tasks) _ c.args.row c.in-Some.ensures.some)
