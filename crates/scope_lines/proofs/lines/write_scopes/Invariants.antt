use Rattle.std.proofs.Common.{◌≡◌, take}
use Rattle.scope_lines.specs.Lines.{lines_text}
use Rattle.scope_lines.proofs.lines.write_scopes.Given as goal

abbrev pub invariant-loop-scope : goal.invariant-loop-scope
invariant-loop-scope l = l.text.items ≡ lines_text (take l.scope-index l.scopes)
