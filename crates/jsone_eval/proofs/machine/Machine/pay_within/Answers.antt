use Rattle.std.proofs.Common.{Err, ap, refl}
use Rattle.jsone_eval.proofs.machine.Machine.pay_within.Goals as goal

pub returns-in-Ok-Some : goal.returns-in-Ok-Some
returns-in-Ok-Some c = rw (c.in-Ok-Some.is, c.in-Ok-Some.field-0-is) c.charge.ensures

pub returns-in-Ok-None : goal.returns-in-Ok-None
returns-in-Ok-None c = rw (c.in-Ok-None.is, c.in-Ok-None.field-0-is) refl

pub returns-in-Err : goal.returns-in-Err
returns-in-Err c = rw c.in-Err.is (ap (λ f. Err f) c.fault_of.ensures)
