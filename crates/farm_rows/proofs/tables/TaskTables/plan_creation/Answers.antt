use Rattle.std.proofs.Common.{ap, ◌∙◌}
use Rattle.task_index.specs.Ready.{settled_row}
use Rattle.farm_rows.proofs.PlanLemmas.{IsPlanOn-created}
use Rattle.farm_rows.proofs.tables.TaskTables.plan_creation.Goals as goal

pub returns-clause-plan : goal.returns-clause-plan
returns-clause-plan c =
    let creation = c.args.creation in
    let at = c.args.at in
    IsPlanOn-created c.args.self.now at c.in-Ok.room creation c.settle_in.new.row c.room_for.ensures.none c.requires
    (c.settle_in.ensures ∙ ap (settled_row c.args.self.now at) c.in-Ok-make.ensures) c.in-Ok.ensures.room
