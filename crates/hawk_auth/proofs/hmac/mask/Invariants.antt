use Rattle.std.proofs.Common.{◌≡◌, take, length}
use Rattle.hawk_auth.specs.Mac.{masked}
use Rattle.hawk_auth.proofs.hmac.mask.Given as goal

abbrev pub invariant-loop-i : goal.invariant-loop-i
invariant-loop-i l = (length l.out ≡ 64) × (take l.i l.out ≡ masked l.byte (take l.i l.block))
