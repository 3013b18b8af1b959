use Rattle.std.proofs.Common.{◌-◌}
use Rattle.role_expand.specs.Known.{known_data, AreGiven}
use Rattle.role_expand.specs.declared.expansion.TheConstants.{MOST_SCOPES}
use Rattle.role_expand.proofs.ClosureLemmas.{IsPartly}
use Rattle.role_expand.proofs.expansion.derive_all.Given as goal

abbrev pub invariant-loop-next : goal.invariant-loop-next
invariant-loop-next l = record {
  partly : IsPartly (known_data l.roles) l.start MOST_SCOPES l.found l.next;
  marked : AreGiven l.roles l.given l.found;
}

abbrev pub decreases-loop-next : goal.decreases-loop-next
decreases-loop-next l = MOST_SCOPES - l.next
