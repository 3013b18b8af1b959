-- The runs that are next are taken, where there are some.
use Rattle.std.proofs.Common.{◌≡◌, min, true, false, refl, ap, rules}
use Rattle.farm_machine.specs.Case.{Setting}
use Rattle.farm_machine.proofs.MayLemmas.{claim-does, claim-reads}
use Rattle.farm_machine.proofs.calls.claim_work.ClaimWorkCalled.deed.Goals as goal

pub returns-in-Some : goal.returns-in-Some
returns-in-Some c =
    let work = c.args.self.work in
    let at : Setting = c.args.at.now in
    let most : c.min-most.result ≡ min work.tasks 32 = search rules in
    let contents : c.at.inside.tables.now ≡ at.state.contents = ap (λ (s : Setting). s.state.contents) c.at.view_is in
    let few = c.in-Some.ensures.few.0 refl in
    claim-does work at c.at.inside.tables.now c.in-Ok.names.items c.in-Some.runs c.min-most.result c.taken_until.result c.taking.result
    c.requires.ready contents c.in-Ok.ensures.own most c.in-Ok.ensures.names c.in-Some.ensures.value few.0 few.1 c.taken_until.ensures c.taking.ensures

pub returns-in_ok-told-in-None : goal.returns-in_ok-told-in-None
returns-in_ok-told-in-None c =
    let work = c.args.self.work in
    let at : Setting = c.args.at.now in
    let most : c.min-most.result ≡ min work.tasks 32 = search rules in
    let contents : c.at.inside.tables.now ≡ at.state.contents = ap (λ (s : Setting). s.state.contents) c.at.view_is in
    claim-reads work at c.at.inside.tables.now c.in-Ok.names.items c.min-most.result c.in_ok-told-in-None.field-0
    contents most c.in-Ok.ensures.names (λ few. let none : false ≡ true = c.in-None.ensures.few.1 few in cc) c.in_ok-told-in-None.ensures
