use Rattle.std.proofs.Common.{All}
use Rattle.disk_base.specs.Calls.{Torn}
use Rattle.disk_base.proofs.images.tear.Given as goal

abbrev pub invariant-loop-place : goal.invariant-loop-place
invariant-loop-place l = All (λ image. Torn l.tearing.at l.tearing.size l.tearing.before.now image.items) l.torn.items
