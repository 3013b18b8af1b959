use Rattle.std.proofs.Common.{◌≡◌, map, take}
use Rattle.scope_sets.specs.Expressions.{view, one}
use Rattle.call_rules.specs.Policy.{create_scope}
use Rattle.call_rules.proofs.create.create_scopes.Given as goal

-- the scopes of the priorities so far
abbrev pub invariant-loop-priority : goal.invariant-loop-priority
invariant-loop-priority l = map view l.members.items ≡ map (λ p. one (create_scope l.queue p)) (take l.priority-index l.priority-items)
