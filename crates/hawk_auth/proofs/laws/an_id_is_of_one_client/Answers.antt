use Rattle.hawk_auth.proofs.LawLemmas.{client_once}
use Rattle.hawk_auth.proofs.laws.an_id_is_of_one_client.Goals as goal

pub returns : goal.returns
returns c = client_once
