use Rattle.std.proofs.Common.{arith}
use Rattle.farm_record.proofs.KindLemmas.{schedule_read, schedule_refused}
use Rattle.farm_record.proofs.kinds.schedule.Goals as goal

pub returns-in-Ok : goal.returns-in-Ok
returns-in-Ok c = schedule_read c.args.fields.now (λ i. omega (arith, c.type_inv.fields i)) c.in-Ok.id c.in-Ok.ensures

pub returns-in-Err : goal.returns-in-Err
returns-in-Err c = schedule_refused c.args.fields.now (λ i. omega (arith, c.type_inv.fields i)) c.in-Err.unread c.in-Err.ensures
