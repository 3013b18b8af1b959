-- The hook has the closure of its start list, or too many scopes are derivable.
use Rattle.std.proofs.Common.{ap, ◌∙◌}
use Rattle.farm_machine.specs.Case.{Setting}
use Rattle.farm_machine.proofs.FiringLemmas.{grants-closure, grants-too-many}
use Rattle.farm_machine.proofs.firing.refusal_of_hook.Goals as goal

pub returns-in-Ok : goal.returns-in-Ok
returns-in-Ok c =
    grants-closure c.args.at.now.state.config c.args.name.now c.args.creation.now c.roles.result.now _ c.in-Ok.scopes c.refusal_within.result
    (c.roles.ensures ∙ ap (λ (s : Setting). s.state.config.roles) c.at.view_is) c.in_ok-start.ensures c.in-Ok.ensures.closure c.refusal_within.ensures

pub returns-in-Err-TooMany : goal.returns-in-Err-TooMany
returns-in-Err-TooMany c =
    grants-too-many c.args.at.now.state.config c.args.name.now c.args.creation.now c.roles.result.now _ c.in-Err-TooMany.field-0 _
    (c.roles.ensures ∙ ap (λ (s : Setting). s.state.config.roles) c.at.view_is) c.in_ok-start.ensures c.in-Err-TooMany.field-0-is c.in-Err-TooMany.ensures.closure c.in_ok-expansion_limit-in-Err-TooMany.ensures
