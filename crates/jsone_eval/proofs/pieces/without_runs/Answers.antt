use Rattle.std.proofs.Common.{codes, refl, ◌∙◌}
use Rattle.jsone_eval.proofs.PieceLemmas.{runs_off}
use Rattle.jsone_eval.proofs.pieces.without_runs.Goals as goal

pub loop-behind-preserved : goal.loop-behind-preserved
loop-behind-preserved c = runs_off (codes "0000000000000000000000000000000000000000000000000000000000000000") c.loop-behind.rest.now c.in-Some.behind.now refl c.in-Some.ensures.cases.0 c.in-Some.ensures.cases.1 ∙ c.loop-behind.invariant
