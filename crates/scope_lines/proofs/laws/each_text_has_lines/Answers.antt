use Rattle.scope_lines.proofs.LineLemmas.{each_text_has_lines}
use Rattle.scope_lines.proofs.laws.each_text_has_lines.Goals as goal

pub returns : goal.returns
returns c = each_text_has_lines
