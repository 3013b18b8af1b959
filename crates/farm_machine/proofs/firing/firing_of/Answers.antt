-- The hook of the name is fired; a definition comes to what its scopes make of it, and a fault to its answer.
use Rattle.std.proofs.Common.{Some, None, ap}
use Rattle.hook_book.specs.Hooks.{hook_data}
use Rattle.farm_machine.specs.Case.{Setting}
use Rattle.farm_machine.proofs.FiringLemmas.{found-so, comes-made, comes-refused}
use Rattle.farm_machine.proofs.firing.firing_of.Goals as goal

pub unreachable-requires : goal.unreachable-requires
unreachable-requires c =
    c.requires
    (found-so c.args.trigger.now c.args.at.now c.as_str.result.now c.as_str-2.result.now _ None c.as_str.ensures.value c.as_str-2.ensures.value
    (ap (λ (s : Setting). s.state.config.hooks) c.at.view_is) c.in_default.ensures)

pub returns-in-Ok : goal.returns-in-Ok
returns-in-Ok c =
    let there = found-so c.args.trigger.now c.args.at.now c.as_str.result.now c.as_str-2.result.now _ (Some (hook_data c.in-Some.hook.now)) c.as_str.ensures.value c.as_str-2.ensures.value
    (ap (λ (s : Setting). s.state.config.hooks) c.at.view_is) c.in-Some.ensures in
    comes-made c.args.trigger.now c.args.at.now (hook_data c.in-Some.hook.now) _ c.at.inside.moment c.at.inside.drawn c.in-Ok.definition c.granted.result there
    c.as_doc.ensures (ap (λ (s : Setting). s.moment) c.at.view_is) (ap (λ (s : Setting). s.drawn) c.at.view_is) c.in-Ok.ensures c.granted.ensures

pub returns-in_ok-refusal-in-Err : goal.returns-in_ok-refusal-in-Err
returns-in_ok-refusal-in-Err c =
    let there = found-so c.args.trigger.now c.args.at.now c.as_str.result.now c.as_str-2.result.now _ (Some (hook_data c.in-Some.hook.now)) c.as_str.ensures.value c.as_str-2.ensures.value
    (ap (λ (s : Setting). s.state.config.hooks) c.at.view_is) c.in-Some.ensures in
    comes-refused c.args.trigger.now c.args.at.now (hook_data c.in-Some.hook.now) _ c.at.inside.moment c.at.inside.drawn c.in-Err.fault _ there
    c.as_doc.ensures (ap (λ (s : Setting). s.moment) c.at.view_is) (ap (λ (s : Setting). s.drawn) c.at.view_is) c.in-Err.ensures c.in_ok-refusal-in-Err.ensures
