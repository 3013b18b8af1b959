use Rattle.std.proofs.Common.{All}
use Rattle.disk_base.specs.Calls.{Torn}
use Rattle.disk_base.proofs.images.choose_each.Given as goal

abbrev pub invariant-loop-image : goal.invariant-loop-image
invariant-loop-image l = All (λ image. Torn l.tearing.at l.tearing.size l.tearing.before.now image.items) l.torn.items
