use Rattle.farm_bulk.proofs.BodyLemmas.{IsLastLine-body}
use Rattle.farm_bulk.proofs.laws.a_body_is_the_last_line.Goals as goal

pub returns : goal.returns
returns c = IsLastLine-body
