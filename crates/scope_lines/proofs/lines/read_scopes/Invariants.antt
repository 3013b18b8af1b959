use Rattle.std.proofs.Common.{length}
use Rattle.scope_lines.proofs.LineLemmas.{HasRead}
use Rattle.scope_lines.proofs.lines.read_scopes.Given as goal

abbrev pub invariant-lines : goal.invariant-lines
invariant-lines l = HasRead l.fn.text l.rest l.scopes.items

abbrev pub decreases-lines : goal.decreases-lines
decreases-lines l = length l.rest
