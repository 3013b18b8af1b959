use Rattle.run_states.specs.Runs.{taken}
use Rattle.run_states.proofs.RunLemmas.{set-last-some}
use Rattle.run_states.proofs.runs.take_last.Goals as goal

pub returns-then-number-gt0 : goal.returns-then-number-gt0
returns-then-number-gt0 c = set-last-some (taken c.args.claim) c.args.runs.now c.index-runs-number.result c.if-number-gt0.true
