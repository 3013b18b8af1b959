use Rattle.scope_lines.proofs.LineLemmas.{lines_are_one}
use Rattle.scope_lines.proofs.laws.the_scopes_are_one.Goals as goal

pub returns : goal.returns
returns c = λ text scopes other says says'. lines_are_one text scopes other says.in_text says'.in_text
