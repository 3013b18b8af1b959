use Rattle.std.proofs.Common.{All, Any}
use Rattle.disk_base.specs.Calls.{Shortened}
use Rattle.disk_base.proofs.images.shorten_each.Given as goal

abbrev pub invariant-loop-before : goal.invariant-loop-before
invariant-loop-before l = All (λ image. Any (λ before. Shortened l.size before.items image.items) l.befores) l.images.items
