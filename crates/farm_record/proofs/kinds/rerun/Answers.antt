use Rattle.std.proofs.Common.{arith}
use Rattle.farm_record.proofs.KindLemmas.{rerun_read, rerun_refused}
use Rattle.farm_record.proofs.kinds.rerun.Goals as goal

pub returns-in-Ok : goal.returns-in-Ok
returns-in-Ok c = rerun_read c.args.fields.now (λ i. omega (arith, c.type_inv.fields i)) c.in-Ok.id c.in-Ok.ensures

pub returns-in-Err : goal.returns-in-Err
returns-in-Err c = rerun_refused c.args.fields.now (λ i. omega (arith, c.type_inv.fields i)) c.in-Err.unread c.in-Err.ensures
