use Rattle.std.proofs.Common.{Some, ap, sym, ◌∙◌}
use Rattle.std.proofs.lemmas.Option.{slice_get-get_or}
use Rattle.task_index.proofs.IndexLemmas.{graph-but, queues-but, index-changed}
use Rattle.task_index.proofs.index.Index.changed.Goals as goal

pub returns : goal.returns
returns c =
    let rows = c.args.rows.now in
    let row = c.index-rows-place.result in
    index-changed c.args.self.now c.keep_dues.new.dues c.keep_changed.new.graph c.keep_waiting.new.queues rows c.args.place row c.requires.index
    (slice_get-get_or rows c.args.place row c.requires.within ∙ sym (ap Some c.index-rows-place.is)) c.keep_dues.ensures c.keep_changed.ensures c.keep_waiting.ensures.all

pub keep_changed-requires-clause-others : goal.keep_changed-requires-clause-others
keep_changed-requires-clause-others c = graph-but c.args.self.now c.args.rows.now c.args.place c.requires.index

pub keep_waiting-requires-clause-others : goal.keep_waiting-requires-clause-others
keep_waiting-requires-clause-others c = queues-but c.args.self.now c.args.rows.now c.args.place c.requires.index
