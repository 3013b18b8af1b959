use Rattle.std.proofs.Common.{Option, subst}
use Rattle.task_index.specs.Placed.{PlaceMap, ArePlaced}
use Rattle.task_index.proofs.QueueChangeLemmas.{placed-own}
use Rattle.task_index.proofs.index.Index.are_picks.Goals as goal

pub are_picks_at-requires-clause-own : goal.are_picks_at-requires-clause-own
are_picks_at-requires-clause-own c = placed-own _ c.args.rows.now (subst (λ (places : Option PlaceMap). ArePlaced places c.args.rows.now) c.in-Some.is c.requires.index.placed)
