use Rattle.http_wire.proofs.StreamLaws.{some_outcome}
use Rattle.http_wire.proofs.laws.each_stream_has_an_outcome.Goals as goal

pub returns : goal.returns
returns c = some_outcome
