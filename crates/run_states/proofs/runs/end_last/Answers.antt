use Rattle.run_states.specs.Runs.{ended}
use Rattle.run_states.proofs.RunLemmas.{set-last-some}
use Rattle.run_states.proofs.runs.end_last.Goals as goal

pub returns-then-number-gt0 : goal.returns-then-number-gt0
returns-then-number-gt0 c = set-last-some (ended c.args.reason c.args.at) c.args.runs.now c.index-runs-number.result c.if-number-gt0.true
