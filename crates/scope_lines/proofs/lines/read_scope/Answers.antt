use Rattle.scope_lines.proofs.LineLemmas.{IsUtf8-scope}
use Rattle.scope_lines.proofs.lines.read_scope.Goals as goal

pub returns-in_default : goal.returns-in_default
returns-in_default c = λ h. c.in_default.ensures.cases.0 (IsUtf8-scope c.args.line.now h)
