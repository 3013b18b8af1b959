use Rattle.std.proofs.Common.{◌≡◌, vec_capacity}
use Rattle.dep_graph.proofs.StepLemmas.{CountsSo}
use Rattle.dep_graph.proofs.waits.Waits.count_all.Given as goal

abbrev pub invariant-loop-row : goal.invariant-loop-row
invariant-loop-row l =
    CountsSo l.tasks.tasks l.rows l.step.before l.step.now l.row-index l.fn.self.lacking.items l.self.lacking.items l.fn.self.ready l.self.ready × (vec_capacity l.self.lacking ≡ vec_capacity l.fn.self.lacking)
