use Rattle.hawk_auth.proofs.SomeLemmas.{access_some}
use Rattle.hawk_auth.proofs.laws.each_caller_has_an_access.Goals as goal

pub returns : goal.returns
returns c = λ longest clients roles head now accepted. access_some longest roles accepted clients head now
