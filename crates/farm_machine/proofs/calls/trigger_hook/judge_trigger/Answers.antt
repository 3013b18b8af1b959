-- What refuses a triggerHook up to its policy is its judgement; else what comes of its hook is.
use Rattle.std.proofs.Common.{◌≡◌, Option, Some, None, Ok, Err, refl, inl, subst}
use Rattle.farm_machine.specs.declared.firing.Firing.{Firing}
use Rattle.farm_machine.specs.declared.firing.Firing.TheVariants.{Makes, Refuses}
use Rattle.farm_asks.specs.declared.question.Call.TheVariants.{TriggerHook}
use Rattle.farm_asks.specs.declared.reply.Answer.{Answer}
use Rattle.farm_machine.specs.Calls.TriggerHook.{hook_at, trigger_hook, Fired, ComesTo, case_after}
use Rattle.farm_machine.specs.Firings.{outcome_of}
use Rattle.farm_machine.specs.Refused.{setting_at, Passes, IsRefusal}
use Rattle.farm_machine.specs.Verdict.{form_of}
use Rattle.farm_machine.proofs.FiredLemmas.{hook-there}
use Rattle.farm_machine.proofs.OrderLemmas.{IsJudged-turned, IsFinished-ruled, IsJudged-came, IsJudged-came-so}
use Rattle.farm_machine.proofs.calls.trigger_hook.judge_trigger.Goals as goal

pub returns-in-Some-clause-judged : goal.returns-in-Some-clause-judged
returns-in-Some-clause-judged c =
    let case = trigger_hook c.args.trigger in
    let at = setting_at c.args.config.now c.args.tables.now c.args.moment c.args.drawn in
    IsJudged-turned at c.args.caller.now (form_of (TriggerHook c.args.trigger)) c.only.result c.in-Some.answer c.only.ensures.answer c.only.ensures.change
    (subst (λ (a : Option Answer). IsRefusal at c.args.caller.now case a) c.in-Some.is c.in-Ok.ensures)

pub firing_of-requires : goal.firing_of-requires
firing_of-requires c = λ none.
    let case = trigger_hook c.args.trigger in
    let at = setting_at c.args.config.now c.args.tables.now c.args.moment c.args.drawn in
    let passes : Passes at c.args.caller.now (case at) = subst (λ (a : Option Answer). IsRefusal at c.args.caller.now case a) c.in_default.is c.in-Ok.ensures in
    let hook = hook-there c.args.trigger.hook (hook_at c.args.trigger.hook at) passes.there in
    let is = hook.1 in
    cc

pub returns-in-Refuses-clause-judged : goal.returns-in-Refuses-clause-judged
returns-in-Refuses-clause-judged c =
    let case = trigger_hook c.args.trigger in
    let at = setting_at c.args.config.now c.args.tables.now c.args.moment c.args.drawn in
    let answer = c.in-Refuses.answer in
    let judged = c.only-in-Refuses.result in
    let passes : Passes at c.args.caller.now (case at) = subst (λ (a : Option Answer). IsRefusal at c.args.caller.now case a) c.in_default.is c.in-Ok.ensures in
    let comes : ComesTo c.args.trigger at (Err answer) = subst (λ (f : Firing). ComesTo c.args.trigger at (outcome_of f)) c.in-Refuses.is c.in-Ok-firing_of.ensures in
    IsJudged-came Fired at c.args.caller.now case (ComesTo c.args.trigger) case_after (Err answer) judged passes comes
    (IsFinished-ruled at (case_after (Err answer) at) judged answer c.only-in-Refuses.ensures.answer c.only-in-Refuses.ensures.change (inl (refl, refl)))

pub returns-in-Makes-clause-judged : goal.returns-in-Makes-clause-judged
returns-in-Makes-clause-judged c =
    let case = trigger_hook c.args.trigger in
    let at = setting_at c.args.config.now c.args.tables.now c.args.moment c.args.drawn in
    let passes : Passes at c.args.caller.now (case at) = subst (λ (a : Option Answer). IsRefusal at c.args.caller.now case a) c.in_default.is c.in-Ok.ensures in
    let comes : ComesTo c.args.trigger at (Ok c.in-Makes.creation) = subst (λ (f : Firing). ComesTo c.args.trigger at (outcome_of f)) c.in-Makes.is c.in-Ok-firing_of.ensures in
    IsJudged-came-so Fired at c.args.caller.now case (ComesTo c.args.trigger) case_after (Ok c.in-Makes.creation) c.finish.result passes comes c.finish.ensures.finished
