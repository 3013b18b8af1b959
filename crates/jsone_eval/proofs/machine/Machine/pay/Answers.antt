use Rattle.std.proofs.Common.{Err, ap}
use Rattle.jsone_eval.proofs.machine.Machine.pay.Goals as goal

pub returns-in-Ok : goal.returns-in-Ok
returns-in-Ok c = rw c.in-Ok.is c.charge.ensures

pub returns-in-Err : goal.returns-in-Err
returns-in-Err c = rw c.in-Err.is (ap (λ f. Err f) c.fault_of.ensures)
