use Rattle.std.proofs.Common.{◌≡◌, ◌<◌, ◌^◌, take}
use Rattle.hawk_auth.specs.Access.{seconds_of}
use Rattle.hawk_auth.proofs.check.seconds.Given as goal

abbrev pub invariant-loop-digit : goal.invariant-loop-digit
invariant-loop-digit l = (l.seconds ≡ seconds_of (take l.digit-index l.digit-items)) × (l.seconds < 10 ^ l.digit-index)
