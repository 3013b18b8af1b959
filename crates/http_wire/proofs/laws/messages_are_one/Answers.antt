use Rattle.http_wire.proofs.StreamLaws.{messages_unique}
use Rattle.http_wire.proofs.laws.messages_are_one.Goals as goal

pub returns : goal.returns
returns c = messages_unique
