use Rattle.std.proofs.Common.{All, Any}
use Rattle.disk_base.specs.Calls.{Torn}
use Rattle.disk_base.proofs.images.tear_each.Given as goal

abbrev pub invariant-loop-before : goal.invariant-loop-before
invariant-loop-before l = All (λ image. Any (λ before. Torn l.at l.size before.items image.items) l.befores) l.images.items
