use Rattle.std.proofs.Common.{None, rules}
use Rattle.std.proofs.lemmas.Option.{unwrap_or-slice_get}
use Rattle.dep_graph.proofs.least.top.Goals as goal

pub returns : goal.returns
returns c = search (rules, unwrap_or-slice_get c.args.nodes.now 1 None)
