use Rattle.std.proofs.Common.{sym}
use Rattle.run_states.specs.Runs.{ended}
use Rattle.run_states.proofs.RunLemmas.{set-at, change-none}
use Rattle.run_states.proofs.runs.end.Goals as goal

pub returns-then-place-runs : goal.returns-then-place-runs
returns-then-place-runs c = set-at (ended c.args.reason c.args.at) c.args.runs.now c.args.place c.index-runs-place.result

pub returns-else-place-runs : goal.returns-else-place-runs
returns-else-place-runs c = sym (change-none (ended c.args.reason c.args.at) c.args.runs.now c.args.place c.if-place-runs.false)
