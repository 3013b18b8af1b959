-- A call that is planned is finished with its judgement; where memory ran out, only its moment is reached.
use Rattle.std.proofs.Common.{refl, arith, rules, ◌≤◌}
use Rattle.farm_text.specs.declared.moment.TheConstants.{LAST_TOLD_MOMENT}
use Rattle.farm_machine.specs.Entry.{finished, out_of_memory}
use Rattle.farm_core.proofs.PlanLemmas.{planned-finishes}
use Rattle.farm_core.proofs.bare.perform.Goals as goal

pub returns-in-Ok : goal.returns-in-Ok
returns-in-Ok c =
    let planned = c.in-Ok.ensures.planned in
    let value = c.moment_of-moment.ensures.value in
    let told = c.moment_of-moment.ensures.told in
    let within : c.in-Ok.plan.moment ≤ LAST_TOLD_MOMENT = rw (planned.at, ← value) told in
    record {
      outcome = finished c.in-Ok.plan.judgement;
      became = planned-finishes c.args.config.now c.args.tables.now c.args.question c.in-Ok.plan within planned;
      leads = rw (c.apply.ensures.applied, c.in-Ok.ensures.same, planned.at) refl;
      told = c.apply.ensures.reply;
      no_disk = tt;
    }

pub returns-in-Err : goal.returns-in-Err
returns-in-Err c =
    let value = c.moment_of-moment.ensures.value in
    let told = c.moment_of-moment.ensures.told in
    record { outcome = out_of_memory; became = record { at_work = refl; told = omega arith; nothing_due = c.requires; became = tt }; leads = search rules; told = search rules; no_disk = tt }
