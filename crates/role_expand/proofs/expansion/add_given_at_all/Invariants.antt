use Rattle.std.proofs.Common.{take}
use Rattle.role_expand.specs.Growth.{Gains, GivenAtSome}
use Rattle.role_expand.specs.Known.{known_data, AreGiven}
use Rattle.role_expand.specs.declared.expansion.TheConstants.{MOST_SCOPES}
use Rattle.role_expand.proofs.expansion.add_given_at_all.Given as goal

abbrev pub invariant-loop-place : goal.invariant-loop-place
invariant-loop-place l = record {
  gained : Gains MOST_SCOPES (GivenAtSome (known_data l.roles) l.held (take l.place-index l.places)) l.initial.found l.found;
  marked : AreGiven l.roles l.given l.found;
}
