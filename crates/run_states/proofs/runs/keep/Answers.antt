use Rattle.std.proofs.Common.{◌∙◌, ap, sym, slice_set}
use Rattle.run_states.specs.Runs.{kept}
use Rattle.run_states.proofs.RunLemmas.{set-at, change-none}
use Rattle.run_states.proofs.runs.keep.Goals as goal

pub returns-then-place-runs : goal.returns-then-place-runs
returns-then-place-runs c =
    ap (slice_set c.args.runs.now c.args.place) c.keep_run.ensures
    ∙ set-at (kept c.args.moment) c.args.runs.now c.args.place c.index-runs-place.result

pub returns-else-place-runs : goal.returns-else-place-runs
returns-else-place-runs c = sym (change-none (kept c.args.moment) c.args.runs.now c.args.place c.if-place-runs.false)
