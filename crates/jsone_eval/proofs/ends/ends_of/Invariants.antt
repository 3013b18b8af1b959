use Rattle.std.proofs.Common.{◌≤◌, length, drop, reverse}
use Rattle.jsone_eval.specs.Ends.{EndsOf}
use Rattle.jsone_eval.proofs.EndLemmas.{Opens}
use Rattle.jsone_eval.proofs.ends.ends_of.Given as goal

-- the nodes from this place on have their ends, and the right sides that begin before it have theirs
abbrev pub invariant-loop-at : goal.invariant-loop-at
invariant-loop-at l = record {
  within : l.at ≤ length l.nodes;
  ends : EndsOf l.nodes (drop l.at l.nodes) (reverse l.ends.items);
  places : Opens l.nodes (drop l.at l.nodes) (reverse l.places.items);
}

abbrev pub decreases-loop-at : goal.decreases-loop-at
decreases-loop-at l = l.at
