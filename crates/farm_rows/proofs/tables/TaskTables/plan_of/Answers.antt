use Rattle.farm_rows.proofs.PlanLemmas.{IsPlanOn-shown}
use Rattle.farm_rows.proofs.tables.TaskTables.plan_of.Goals as goal

pub returns-clause-plan : goal.returns-clause-plan
returns-clause-plan c =
    IsPlanOn-shown c.args.self.now c.args.at c.none.result c.args.deed c.in_ok-claims.rows.items c.requires.stands c.in_ok-claims.ensures.own c.requires.lawful c.in_ok-claims.ensures.rows
