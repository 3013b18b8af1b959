use Rattle.farm_rows.proofs.SummaryLemmas.{IsMade}
use Rattle.farm_rows.proofs.summary.runs.Given as goal

-- the runs of the tasks so far
abbrev pub invariant-rows : goal.invariant-rows
invariant-rows l = IsMade l.rows l.row-index l.made
