use Rattle.std.proofs.Common.{◌≡◌, ◌++◌, map, take}
use Rattle.json.specs.Token.{string}
use Rattle.task_defs.proofs.full_text.write_routes.Given as goal

abbrev pub invariant-loop-route : goal.invariant-loop-route
invariant-loop-route l = (l.out.before ≡ l.initial.out.before) × (l.out.tokens ≡ l.initial.out.tokens ++ map string (take l.route-index l.routes))
