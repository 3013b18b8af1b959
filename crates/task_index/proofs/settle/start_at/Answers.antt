use Rattle.std.proofs.Common.{ap, ◌∙◌, slice_set}
use Rattle.run_states.specs.Rows.{scheduled}
use Rattle.run_states.proofs.LaterLemmas.{scheduled-later}
use Rattle.run_states.proofs.RunLemmas.{set-at}
use Rattle.task_index.proofs.IndexLemmas.{index-but}
use Rattle.task_index.proofs.settle.start_at.Goals as goal

pub changed-requires-clause-index : goal.changed-requires-clause-index
changed-requires-clause-index c =
    index-but c.args.index.now c.args.rows.now c.args.place c.index-rows-place.result _ (scheduled c.args.number c.args.at) c.requires.index (scheduled-later c.args.number c.args.at) c.schedule.ensures.row

pub returns-clause-rows : goal.returns-clause-rows
returns-clause-rows c =
    ap (slice_set c.args.rows.now c.args.place) c.schedule.ensures.row
    ∙ set-at (scheduled c.args.number c.args.at) c.args.rows.now c.args.place c.index-rows-place.result
