use Rattle.command_line.proofs.ValueLemmas.{id_test}
use Rattle.command_line.proofs.values.is_id.Goals as goal

pub returns : goal.returns
returns c = id_test _ _ c.is_client_id.ensures
