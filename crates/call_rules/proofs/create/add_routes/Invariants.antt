use Rattle.std.proofs.Common.{◌≡◌, ◌++◌, map, take, codes}
use Rattle.scope_sets.specs.Expressions.{view, one}
use Rattle.call_rules.proofs.create.add_routes.Given as goal

-- the scopes of the routes so far are added
abbrev pub invariant-loop-route : goal.invariant-loop-route
invariant-loop-route l = map view l.members.items ≡ map view l.fn.members.items ++ map (λ route. one (codes "queue:route:" ++ route)) (take l.route-index l.routes)
