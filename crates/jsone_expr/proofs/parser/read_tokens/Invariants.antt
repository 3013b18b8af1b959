use Rattle.std.proofs.Common.{◌-◌, ◌≤◌, length}
use Rattle.jsone_expr.specs.Moves.{flat_of}
use Rattle.jsone_expr.specs.Texts.{token_list}
use Rattle.jsone_expr.proofs.Readings.{ReadSoFar}
use Rattle.jsone_expr.proofs.parser.read_tokens.Given as goal

abbrev pub invariant-loop-at : goal.invariant-loop-at
invariant-loop-at l = record { within : l.at ≤ length l.pieces; read : ReadSoFar (token_list l.pieces) l.at (flat_of l.reader) }

abbrev pub decreases-loop-at : goal.decreases-loop-at
decreases-loop-at l = length l.pieces - l.at
