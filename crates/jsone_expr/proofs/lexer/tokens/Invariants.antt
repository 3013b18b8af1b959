use Rattle.std.proofs.Common.{◌-◌, length}
use Rattle.jsone_expr.proofs.LexLemmas.{ReadUpTo}
use Rattle.jsone_expr.proofs.lexer.tokens.Given as goal

abbrev pub invariant-loop-at : goal.invariant-loop-at
invariant-loop-at l = ReadUpTo l.text l.pieces.items l.at

abbrev pub decreases-loop-at : goal.decreases-loop-at
decreases-loop-at l = length l.text - l.at
