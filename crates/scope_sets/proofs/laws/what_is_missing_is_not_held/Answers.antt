use Rattle.scope_sets.proofs.LawLemmas.{missing_bare, missing_fails}
use Rattle.scope_sets.proofs.laws.what_is_missing_is_not_held.Goals as goal

pub returns-clause-whole : goal.returns-clause-whole
returns-clause-whole c = missing_fails

pub returns-clause-scopes : goal.returns-clause-scopes
returns-clause-scopes c = missing_bare
