use Rattle.run_states.proofs.LaterLemmas.{exceeded-resolved}
use Rattle.run_states.proofs.laws.a_deadline_resolves.Goals as goal

pub returns : goal.returns
returns c = exceeded-resolved
