use Rattle.std.proofs.Common.{List, ℕ, ◌++◌, map, codes, sym, ap, ◌∙◌, append-nil, arith, All, subst}
use Rattle.scope_sets.specs.Scopes.{IsPrintable}
use Rattle.scope_sets.specs.Expressions.{Expression, view, one}
use Rattle.call_rules.proofs.PolicyLemmas.{view-One, grown, all_grown}
use Rattle.call_rules.proofs.create.add_routes.Goals as goal

abbrev route_scope : List ℕ → Expression
route_scope route = one (codes "queue:route:" ++ route)

pub scope_of-requires-clause-rest : goal.scope_of-requires-clause-rest
scope_of-requires-clause-rest c = subst (All IsPrintable) (sym c.as_str.ensures.value) c.as_str.ensures.form.bytes

pub loop-route-init : goal.loop-route-init
loop-route-init c = sym (append-nil (map view c.args.members.now.items))

pub loop-route-preserved : goal.loop-route-preserved
loop-route-preserved c =
    grown route_scope c.args.routes.now c.loop-route.route-index (map view c.args.members.now.items) c.loop-route.members.items c.push.new.self.items _ c.route-item.result
    (omega arith) c.loop-route.invariant c.in_ok-push.ensures.items
    (view-One _ ∙ ap one (c.in_ok-scope_of.ensures ∙ ap (λ (r : List ℕ). codes "queue:route:" ++ r) (c.as_str.ensures.value ∙ c.route-item.is)))

pub returns : goal.returns
returns c = all_grown route_scope c.args.routes.now c.loop-route.route-index (map view c.args.members.now.items) c.loop-route.members.items c.loop-route-test.false c.loop-route.invariant
