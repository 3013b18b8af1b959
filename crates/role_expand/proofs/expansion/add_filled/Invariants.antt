use Rattle.std.proofs.Common.{take}
use Rattle.role_expand.specs.Growth.{Gains, IsFilledFrom}
use Rattle.role_expand.specs.declared.expansion.TheConstants.{MOST_SCOPES}
use Rattle.role_expand.proofs.expansion.add_filled.Given as goal

abbrev pub invariant-loop-scope : goal.invariant-loop-scope
invariant-loop-scope l = Gains MOST_SCOPES (IsFilledFrom (take l.scope-index l.scopes) l.parameter) l.initial.found l.found
