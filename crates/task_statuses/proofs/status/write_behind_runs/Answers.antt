use Rattle.std.proofs.Common.{◌++◌}
use Rattle.std.proofs.lemmas.Result.{on_ok_weaker}
use Rattle.task_types.specs.declared.task_def.TaskDef.{TaskDef}
use Rattle.task_statuses.specs.Parts.{standing, ids, place}
use Rattle.task_statuses.proofs.WritingLemmas.{members_then, members_of_same}
use Rattle.task_statuses.proofs.status.write_behind_runs.Goals as goal

pub returns-clause-ok : goal.returns-clause-ok
returns-clause-ok c =
    let row = c.args.row.now in
    let t = c.args.out.now.tokens in
    let u = c.write_standing.new.out.tokens in
    let v = c.write_ids.new.out.tokens in
    let w = c.write_place.new.out.tokens in
    on_ok_weaker c.write_place.result
    (λ e. members_then t u w (standing row) (ids row ++ place row.definition.queue) c.in_ok-write_standing.ensures.ok
    (members_then u v w (ids row) (place row.definition.queue) c.in_ok-write_ids.ensures.ok
    (members_of_same v w (λ (d : TaskDef). place d.queue) c.definition.result.now row.definition e c.definition.ensures)))
    c.write_place.ensures.ok
