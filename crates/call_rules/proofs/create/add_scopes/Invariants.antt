use Rattle.std.proofs.Common.{◌≡◌, ◌++◌, map, take}
use Rattle.scope_sets.specs.Expressions.{view, one}
use Rattle.call_rules.proofs.create.add_scopes.Given as goal

-- the scopes so far are added
abbrev pub invariant-loop-scope : goal.invariant-loop-scope
invariant-loop-scope l = map view l.members.items ≡ map view l.fn.members.items ++ map one (take l.scope-index l.scopes)
