use Rattle.scope_lines.proofs.LineLemmas.{lines_are_one}
use Rattle.scope_lines.proofs.laws.lines_are_one.Goals as goal

pub returns : goal.returns
returns c = lines_are_one
