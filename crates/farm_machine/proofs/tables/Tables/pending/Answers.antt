use Rattle.std.proofs.Common.{ℕ, List, ap, ◌∙◌, count_by}
use Rattle.task_index.specs.Contents.{Contents}
use Rattle.task_index.specs.Picks.{waits_in, waits_under}
use Rattle.farm_machine.proofs.tables.Tables.pending.Goals as goal

pub returns : goal.returns
returns c =
    let rows = c.self.inside.tasks.rows in
    c.pending.ensures
    ∙ (ap (λ (name : List ℕ). count_by (waits_under name) rows) c.in_ok-name.ensures
    ∙ (c.one_name_is_one_queue.ensures rows ∙ ap (λ (k : Contents). count_by (waits_in c.args.queue.now) k.rows) c.self.view_is))
