use Rattle.scope_lines.proofs.LineLemmas.{the_bad_line_is_one}
use Rattle.scope_lines.proofs.laws.the_bad_line_is_one.Goals as goal

pub returns : goal.returns
returns c = the_bad_line_is_one
