use Rattle.run_states.proofs.NameLemmas.{names-apart}
use Rattle.run_states.proofs.laws.reasons_have_names_of_their_own.Goals as goal

pub returns : goal.returns
returns c = names-apart
