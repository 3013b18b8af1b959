use Rattle.std.proofs.Common.{◌∙◌}
use Rattle.run_states.proofs.RunLemmas.{get-last}
use Rattle.run_states.proofs.runs.last.Goals as goal

pub returns : goal.returns
returns c = c.last.ensures.value ∙ get-last c.args.runs.now
