use Rattle.hawk_auth.proofs.AccessLemmas.{ext_once}
use Rattle.hawk_auth.proofs.laws.an_ext_allows_one_thing.Goals as goal

pub returns : goal.returns
returns c = ext_once c.a_text_is_of_one_document.ensures
