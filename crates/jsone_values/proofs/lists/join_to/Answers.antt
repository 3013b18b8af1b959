use Rattle.std.proofs.Common.{◌<◌, ℕ, List, length, subst, length-append, arith}
use Rattle.jsone_values.proofs.lists.join_to.Goals as goal

pub returns-then-len-most-clause-longer : goal.returns-then-len-most-clause-longer
returns-then-len-most-clause-longer c = λ fits. subst (λ (bs : List ℕ). c.args.most < length bs) c.loop-part.invariant (omega (arith, length-append {A = ℕ}, c.len.ensures, c.if-len-most.true))
