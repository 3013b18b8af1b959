use Rattle.scope_lines.proofs.LineLemmas.{says_not_refused}
use Rattle.scope_lines.proofs.laws.what_says_scopes_is_not_refused.Goals as goal

pub returns : goal.returns
returns c = says_not_refused
