use Rattle.std.proofs.Common.{◌≡◌, take, ◌↔◌}
use Rattle.std.specs.Prelude.{IsTrue}
use Rattle.hawk_auth.proofs.check.are_same.Given as goal

abbrev pub invariant-loop-i : goal.invariant-loop-i
invariant-loop-i l = IsTrue l.same ↔ (take l.i l.a ≡ take l.i l.b)
