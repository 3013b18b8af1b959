use Rattle.scope_sets.proofs.SatisfyingLemmas.{covers-Decides}
use Rattle.scope_sets.proofs.LawLemmas.{all_hold-All, all_hold-from_All, some_holds-Any, some_holds-from_Any}
use Rattle.scope_sets.proofs.laws.expressions_hold_by_their_members.Goals as goal

pub returns-clause-scope : goal.returns-clause-scope
returns-clause-scope c = covers-Decides

pub returns-clause-all : goal.returns-clause-all
returns-clause-all c = λ set members. (all_hold-All set members, all_hold-from_All set members)

pub returns-clause-any : goal.returns-clause-any
returns-clause-any c = λ set members. (some_holds-Any set members, some_holds-from_Any set members)
