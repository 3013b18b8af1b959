use Rattle.std.proofs.Common.{arith}
use Rattle.farm_record.proofs.KindLemmas.{cancel_read, cancel_refused}
use Rattle.farm_record.proofs.kinds.cancel.Goals as goal

pub returns-in-Ok : goal.returns-in-Ok
returns-in-Ok c = cancel_read c.args.fields.now (λ i. omega (arith, c.type_inv.fields i)) c.in-Ok.id c.in-Ok.ensures

pub returns-in-Err : goal.returns-in-Err
returns-in-Err c = cancel_refused c.args.fields.now (λ i. omega (arith, c.type_inv.fields i)) c.in-Err.unread c.in-Err.ensures
