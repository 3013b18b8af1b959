-- A rule of the call ends it, or what it does is judged.
use Rattle.std.proofs.Common.{Option, ◌∙◌, subst}
use Rattle.farm_machine.specs.declared.case.Done.TheVariants.{Reads, Changes}
use Rattle.farm_machine.specs.Case.{IsFirstRule}
use Rattle.farm_machine.specs.Deeds.{IsDeed}
use Rattle.farm_machine.specs.Refused.{setting_at}
use Rattle.farm_machine.proofs.OrderLemmas.{IsFinished-ruled, IsFinished-reads, IsFinished-made}
use Rattle.farm_machine.proofs.order.finish.Goals as goal

pub returns-in-Some-clause-finished : goal.returns-in-Some-clause-finished
returns-in-Some-clause-finished g c =
    let at = setting_at c.args.config.now c.args.tables.now c.args.moment c.args.drawn in
    let case = g.C.Called.case c.args.call at in
    IsFinished-ruled at case c.only.result c.in-Some.answer c.only.ensures.answer c.only.ensures.change
    (subst (IsFirstRule case.rules) c.in-Some.is c.in_ok-answer.ensures)

pub returns-in-Reads-clause-finished : goal.returns-in-Reads-clause-finished
returns-in-Reads-clause-finished g c =
    let at = setting_at c.args.config.now c.args.tables.now c.args.moment c.args.drawn in
    let case = g.C.Called.case c.args.call at in
    let deed : IsDeed at case.deed (Reads c.in-Reads.body) = subst (IsDeed at case.deed) c.in-Reads.is c.in_ok-body.ensures in
    IsFinished-reads at case c.only-in-Reads.result c.in-Reads.body (c.only-in-Reads.ensures.answer ∙ c.ok.ensures) c.only-in-Reads.ensures.change
    (subst (IsFirstRule case.rules) c.in_default.is c.in_ok-answer.ensures) deed.0 deed.1

pub returns-in_ok-made-in-Changes-clause-finished : goal.returns-in_ok-made-in-Changes-clause-finished
returns-in_ok-made-in-Changes-clause-finished g c =
    let at = setting_at c.args.config.now c.args.tables.now c.args.moment c.args.drawn in
    let case = g.C.Called.case c.args.call at in
    let deed : IsDeed at case.deed (Changes c.in-Changes.kind) = subst (IsDeed at case.deed) c.in-Changes.is c.in_ok-body.ensures in
    IsFinished-made at case c.in-Changes.kind c.in_ok-made-in-Changes.made
    (subst (IsFirstRule case.rules) c.in_default.is c.in_ok-answer.ensures) deed.0 c.in_ok-made-in-Changes.ensures.made
