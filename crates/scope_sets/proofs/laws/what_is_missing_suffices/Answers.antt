use Rattle.scope_sets.proofs.LawLemmas.{missing_suffices}
use Rattle.scope_sets.proofs.laws.what_is_missing_suffices.Goals as goal

pub returns : goal.returns
returns c = missing_suffices
