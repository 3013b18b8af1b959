-- What refuses a call up to its policy is its judgement; else it is finished.
use Rattle.std.proofs.Common.{Option, subst}
use Rattle.farm_asks.specs.declared.reply.Answer.{Answer}
use Rattle.farm_machine.specs.Order.{asks}
use Rattle.farm_machine.specs.Refused.{setting_at, Passes, IsRefusal}
use Rattle.farm_machine.proofs.OrderLemmas.{IsJudged-turned, IsJudged-finished-so}
use Rattle.farm_machine.proofs.order.judge.Goals as goal

pub returns-in-Some-clause-judged : goal.returns-in-Some-clause-judged
returns-in-Some-clause-judged g c =
    let case = g.C.Called.case c.args.call in
    let at = setting_at c.args.config.now c.args.tables.now c.args.moment c.args.drawn in
    IsJudged-turned at c.args.caller.now (asks case) c.only.result c.in-Some.answer c.only.ensures.answer c.only.ensures.change
    (subst (λ (a : Option Answer). IsRefusal at c.args.caller.now case a) c.in-Some.is c.in_ok-answer.ensures)

pub finish-requires-clause-named : goal.finish-requires-clause-named
finish-requires-clause-named g c =
    let case = g.C.Called.case c.args.call in
    let at = setting_at c.args.config.now c.args.tables.now c.args.moment c.args.drawn in
    let passes : Passes at c.args.caller.now (case at) = subst (λ (a : Option Answer). IsRefusal at c.args.caller.now case a) c.in_default.is c.in_ok-answer.ensures in
    passes.named

pub finish-requires-clause-there : goal.finish-requires-clause-there
finish-requires-clause-there g c =
    let case = g.C.Called.case c.args.call in
    let at = setting_at c.args.config.now c.args.tables.now c.args.moment c.args.drawn in
    let passes : Passes at c.args.caller.now (case at) = subst (λ (a : Option Answer). IsRefusal at c.args.caller.now case a) c.in_default.is c.in_ok-answer.ensures in
    passes.there

pub returns-clause-judged : goal.returns-clause-judged
returns-clause-judged g c =
    let case = g.C.Called.case c.args.call in
    let at = setting_at c.args.config.now c.args.tables.now c.args.moment c.args.drawn in
    let passes : Passes at c.args.caller.now (case at) = subst (λ (a : Option Answer). IsRefusal at c.args.caller.now case a) c.in_default.is c.in_ok-answer.ensures in
    IsJudged-finished-so at c.args.caller.now case c.finish.result passes c.finish.ensures.finished
