use Rattle.command_line.proofs.ValueLemmas.{token_test}
use Rattle.command_line.proofs.values.is_token.Goals as goal

pub returns : goal.returns
returns c = token_test _ _ c.is_token.ensures
