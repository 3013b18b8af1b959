use Rattle.std.proofs.Common.{◌≡◌, ◌≤◌, take}
use Rattle.dep_graph.specs.Tables.{lacks}
use Rattle.dep_graph.proofs.waits.count_lacking.Given as goal

abbrev pub invariant-loop-row : goal.invariant-loop-row
invariant-loop-row l = (l.lacking ≡ lacks l.tasks.tasks l.needs (take l.row-index l.rows)) × (l.lacking ≤ l.row-index)
