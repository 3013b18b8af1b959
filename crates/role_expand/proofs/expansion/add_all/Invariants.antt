use Rattle.std.proofs.Common.{Contains, take}
use Rattle.role_expand.specs.Growth.{Gains}
use Rattle.role_expand.specs.declared.expansion.TheConstants.{MOST_SCOPES}
use Rattle.role_expand.proofs.expansion.add_all.Given as goal

abbrev pub invariant-loop-scope : goal.invariant-loop-scope
invariant-loop-scope l = Gains MOST_SCOPES (Contains (take l.scope-index l.scopes)) l.initial.found l.found
