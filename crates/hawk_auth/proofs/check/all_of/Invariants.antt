use Rattle.std.proofs.Common.{◌≡◌, take}
use Rattle.std.specs.Prelude.{map}
use Rattle.scope_sets.specs.Expressions.{view, one}
use Rattle.hawk_auth.proofs.check.all_of.Given as goal

abbrev pub invariant-loop-scope : goal.invariant-loop-scope
invariant-loop-scope l = map view l.members.items ≡ map one (take l.scope-index l.scopes)
