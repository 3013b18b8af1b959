use Rattle.scope_sets.proofs.LawLemmas.{holds_more}
use Rattle.scope_sets.proofs.laws.more_scopes_hold_more.Goals as goal

pub returns : goal.returns
returns c = λ set more e within. holds_more set more within e
