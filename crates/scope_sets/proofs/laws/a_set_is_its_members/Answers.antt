use Rattle.scope_sets.proofs.LawLemmas.{same_from_members}
use Rattle.scope_sets.proofs.laws.a_set_is_its_members.Goals as goal

pub returns : goal.returns
returns c = λ set other up vp same. same_from_members set other up vp (λ s. (same s).0) (λ s. (same s).1)
