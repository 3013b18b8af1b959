use Rattle.std.proofs.Common.{◌+◌, ◌*◌, ◌-◌, length}
use Rattle.farm_serving.proofs.halves.+halves.Given as goal

abbrev pub decreases-serve_all : goal.decreases-serve_all
decreases-serve_all g l = 4 * length l.workers.now

abbrev pub decreases-serve_halves : goal.decreases-serve_halves
decreases-serve_halves g l = 4 * (length l.low.now + length l.high.now) - 1

abbrev pub decreases-serve_both : goal.decreases-serve_both
decreases-serve_both g l = 4 * (length l.low.now + length l.high.now) - 2

abbrev pub decreases-serve_both-front : goal.decreases-serve_both-front
decreases-serve_both-front g l = 4 * length l.low.now + 1

abbrev pub decreases-serve_both-back : goal.decreases-serve_both-back
decreases-serve_both-back g l = 4 * length l.high.now + 1
