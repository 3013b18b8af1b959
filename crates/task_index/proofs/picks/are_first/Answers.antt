use Rattle.std.proofs.Common.{sym}
use Rattle.task_index.proofs.QueueFirstLemmas.{first-at, first-lost}
use Rattle.task_index.proofs.picks.are_first.Goals as goal

pub returns-in-Some-place : goal.returns-in-Some-place
returns-in-Some-place c = first-at c.args.names.now c.args.rows.now c.in-Some.first.now c.in-Some-place.place c.are_picks.result (sym c.in-Some.ensures.value) (sym c.in-Some-place.ensures) c.are_picks.ensures

pub returns-in-None : goal.returns-in-None
returns-in-None c = first-lost c.args.names.now c.args.rows.now c.in-Some.first.now (sym c.in-Some.ensures.value) (sym c.in-None.ensures)
