use Rattle.hawk_auth.proofs.LawLemmas.{header_once}
use Rattle.hawk_auth.proofs.laws.a_header_says_one_thing.Goals as goal

pub returns : goal.returns
returns c = header_once
