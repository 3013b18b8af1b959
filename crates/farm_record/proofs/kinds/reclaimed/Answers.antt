use Rattle.std.proofs.Common.{arith}
use Rattle.farm_record.proofs.KindLemmas.{reclaim_read, reclaim_refused}
use Rattle.farm_record.proofs.kinds.reclaimed.Goals as goal

pub returns-in-Ok : goal.returns-in-Ok
returns-in-Ok c = reclaim_read c.args.fields.now (λ i. omega (arith, c.type_inv.fields i)) c.in-Ok.reclaim c.in-Ok.ensures

pub returns-in-Err : goal.returns-in-Err
returns-in-Err c = reclaim_refused c.args.fields.now (λ i. omega (arith, c.type_inv.fields i)) c.in-Err.unread c.in-Err.ensures
