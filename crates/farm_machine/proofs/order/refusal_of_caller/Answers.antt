-- Whoever has access is asked for its scopes, and another caller is refused.
use Rattle.std.proofs.Common.{[]}
use Rattle.farm_asks.specs.Access.{Has, Refused, HasAccess}
use Rattle.farm_asks.proofs.AccessLemmas.{has_kept, has_made, has_refused}
use Rattle.farm_machine.proofs.OrderLemmas.{asks-refused, refused-within}
use Rattle.farm_machine.proofs.order.refusal_of_caller.Goals as goal

pub returns-in-Keeps : goal.returns-in-Keeps
returns-in-Keeps g c =
    let at = c.args.at.now in
    let case = g.C.Called.case c.args.call.now in
    let has : HasAccess at.state.config at.moment c.args.caller.now (Has c.in-Keeps.scopes.now) = rw (← c.at.view_is) (has_kept c.at.inside.config.now c.at.inside.moment c.args.caller.now c.in_ok-scopes.field-0 c.in-Keeps.scopes c.in-Keeps.is c.in_ok-scopes.ensures) in
    refused-within at c.args.caller.now case c.in-Keeps.scopes.now c.refusal_within.result has c.refusal_within.ensures

pub returns-in-Makes : goal.returns-in-Makes
returns-in-Makes g c =
    let at = c.args.at.now in
    let case = g.C.Called.case c.args.call.now in
    let has : HasAccess at.state.config at.moment c.args.caller.now (Has c.in-Makes.scopes) = rw (← c.at.view_is) (has_made c.at.inside.config.now c.at.inside.moment c.args.caller.now c.in_ok-scopes.field-0 c.in-Makes.scopes c.in-Makes.is c.in_ok-scopes.ensures) in
    refused-within at c.args.caller.now case c.in-Makes.scopes c.refusal_within-in-Makes.result has c.refusal_within-in-Makes.ensures

pub returns-in-Refused : goal.returns-in-Refused
returns-in-Refused g c =
    let at = c.args.at.now in
    let case = g.C.Called.case c.args.call.now in
    let has : HasAccess at.state.config at.moment c.args.caller.now (Refused c.in-Refused.answer) = rw (← c.at.view_is) (has_refused c.at.inside.config.now c.at.inside.moment c.args.caller.now c.in_ok-scopes.field-0 c.in-Refused.answer c.in-Refused.is c.in_ok-scopes.ensures) in
    asks-refused at c.args.caller.now case [] c.in-Refused.answer c.requires has
