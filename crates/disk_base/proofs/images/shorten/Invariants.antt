use Rattle.std.proofs.Common.{All}
use Rattle.disk_base.specs.Calls.{Shortened}
use Rattle.disk_base.proofs.images.shorten.Given as goal

abbrev pub invariant-loop-length : goal.invariant-loop-length
invariant-loop-length l = All (λ image. Shortened l.size l.before image.items) l.images.items
