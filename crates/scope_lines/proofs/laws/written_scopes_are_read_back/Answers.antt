use Rattle.scope_lines.proofs.LineLemmas.{SaysScopes-written}
use Rattle.scope_lines.proofs.laws.written_scopes_are_read_back.Goals as goal

pub returns : goal.returns
returns c = SaysScopes-written
