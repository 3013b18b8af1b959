-- Each part of the call is asked in its turn, and answers where it strikes.
use Rattle.std.proofs.Common.{◌≡◌, [], Some, None, option_map, sym, ap, ◌∙◌}
use Rattle.scope_sets.specs.Expressions.{view, missing}
use Rattle.farm_machine.proofs.OrderLemmas.{asks-absent, asks-lacking}
use Rattle.farm_machine.proofs.order.refusal_within.Goals as goal

pub returns-in-Some : goal.returns-in-Some
returns-in-Some g c = λ caller has.
    let at = c.args.at.now in
    let case = g.C.Called.case c.args.call.now in
    asks-absent at caller case [] c.args.scopes.now has c.requires c.in-Some.answer (sym c.in_ok-answer.ensures ∙ c.in-Some.is)

pub returns-in-Some-2 : goal.returns-in-Some-2
returns-in-Some-2 g c = λ caller has.
    let at = c.args.at.now in
    let case = g.C.Called.case c.args.call.now in
    let there : (case at).absent ≡ None = sym c.in_ok-answer.ensures ∙ c.in_default.is in
    let lacks : missing c.args.scopes.now (case at).policy ≡ Some (view c.in-Some-2.lack) = ap (missing c.args.scopes.now) (sym c.in_ok-policy.ensures) ∙ (sym c.in_ok-lack.ensures ∙ ap (option_map view) c.in-Some-2.is) in
    rw c.in_ok-denial.ensures
    (asks-lacking at caller case [] c.args.scopes.now has c.requires (view c.in-Some-2.lack) there lacks)

pub returns : goal.returns
returns g c = λ caller has.
    let at = c.args.at.now in
    let case = g.C.Called.case c.args.call.now in
    let there : (case at).absent ≡ None = sym c.in_ok-answer.ensures ∙ c.in_default.is in
    let none : missing c.args.scopes.now (case at).policy ≡ None = ap (missing c.args.scopes.now) (sym c.in_ok-policy.ensures) ∙ (sym c.in_ok-lack.ensures ∙ ap (option_map view) c.in_default-2.is) in
    record { named = c.requires; scopes = c.args.scopes.now; has = has; there = there; held = none }
