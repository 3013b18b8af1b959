use Rattle.std.proofs.Common.{◌≡◌}
use Rattle.std.specs.Prelude.{replicate}
use lib.Seq.{paste}
use Rattle.hawk_auth.proofs.hmac.with_zeros.Given as goal

abbrev pub invariant-loop-i : goal.invariant-loop-i
invariant-loop-i l = l.block ≡ paste (replicate 64 0) 0 l.key l.i
