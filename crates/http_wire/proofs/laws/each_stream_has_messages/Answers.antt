use Rattle.http_wire.proofs.StreamLaws.{some_messages}
use Rattle.http_wire.proofs.laws.each_stream_has_messages.Goals as goal

pub returns : goal.returns
returns c = some_messages
