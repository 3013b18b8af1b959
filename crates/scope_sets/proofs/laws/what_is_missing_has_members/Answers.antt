use Rattle.scope_sets.proofs.LawLemmas.{missing_full}
use Rattle.scope_sets.proofs.laws.what_is_missing_has_members.Goals as goal

pub returns : goal.returns
returns c = missing_full
