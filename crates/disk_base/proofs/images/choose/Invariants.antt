use Rattle.std.proofs.Common.{All}
use Rattle.disk_base.specs.Calls.{Torn}
use Rattle.disk_base.proofs.images.choose.Given as goal

abbrev pub invariant-loop-choice : goal.invariant-loop-choice
invariant-loop-choice l = All (λ image. Torn l.tearing.at l.tearing.size l.tearing.before.now image.items) l.torn.items
