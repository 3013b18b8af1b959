use Rattle.std.proofs.Common.{arith}
use Rattle.farm_record.proofs.KindLemmas.{resolve_read, resolve_refused}
use Rattle.farm_record.proofs.kinds.resolved.Goals as goal

pub returns-in-Ok : goal.returns-in-Ok
returns-in-Ok c = resolve_read c.args.fields.now (λ i. omega (arith, c.type_inv.fields i)) c.in-Ok.resolution c.in-Ok.ensures

pub returns-in-Err : goal.returns-in-Err
returns-in-Err c = resolve_refused c.args.fields.now (λ i. omega (arith, c.type_inv.fields i)) c.in-Err.unread c.in-Err.ensures
