use Rattle.std.proofs.Common.{ℕ, List, Option, option_map, Vec, Global}
use Rattle.farm_machine.specs.State.{working}
use Rattle.farm_machine.proofs.PlanLemmas.{IsPlanOf-judged}
use Rattle.farm_machine.proofs.WrittenLemmas.{planned-recorded}
use Rattle.farm_machine.proofs.step.plan.Goals as goal

pub invariant_of-result : goal.invariant_of-result
invariant_of-result c =
    let judged = c.in_ok-judged.field-0 in
    let text : Option (List ℕ) = option_map (λ (r : Vec ℕ Global). r.items) judged.written in
    let planned = IsPlanOf-judged c.args.config.now c.args.tables.now c.args.question c.moment_of-moment.result c.drawn-drawn.result c.into_parts-caller.result.1 c.into_parts-caller.result.0 judged c.moment_of-moment.ensures.value c.drawn-drawn.ensures c.into_parts-caller.ensures.call c.into_parts-caller.ensures.caller c.requires c.in_ok-judged.ensures.judged in (
      c.moment_of-moment.ensures.told,
      planned-recorded (working c.args.config.now c.args.tables.now) c.args.question judged text c.into_parts-caller.result.1 planned.judged c.into_parts-caller.ensures.call c.into_parts-caller.ensures.said c.in_ok-judged.ensures.written,
    )

pub returns-clause-planned : goal.returns-clause-planned
returns-clause-planned c =
    IsPlanOf-judged c.args.config.now c.args.tables.now c.args.question c.moment_of-moment.result c.drawn-drawn.result c.into_parts-caller.result.1 c.into_parts-caller.result.0 c.in_ok-judged.field-0 c.moment_of-moment.ensures.value c.drawn-drawn.ensures c.into_parts-caller.ensures.call c.into_parts-caller.ensures.caller c.requires c.in_ok-judged.ensures.judged
