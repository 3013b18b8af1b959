use Rattle.std.proofs.Common.{◌≡◌, take}
use Rattle.hawk_auth.proofs.check.copy_of.Given as goal

abbrev pub invariant-loop-scope : goal.invariant-loop-scope
invariant-loop-scope l = l.copy.items ≡ take l.scope-index l.scopes
