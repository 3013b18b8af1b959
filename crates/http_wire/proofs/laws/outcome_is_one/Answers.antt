use Rattle.http_wire.proofs.StreamLaws.{outcome_unique}
use Rattle.http_wire.proofs.laws.outcome_is_one.Goals as goal

pub returns : goal.returns
returns c = outcome_unique
