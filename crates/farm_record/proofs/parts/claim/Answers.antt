use Rattle.std.proofs.Common.{refl, arith}
use Rattle.farm_record.proofs.ClaimLemmas.{no_claim, bad_group, bad_worker, is_claim}
use Rattle.farm_record.proofs.parts.claim.Goals as goal

pub returns-in-Err : goal.returns-in-Err
returns-in-Err c = no_claim c.args.fields.now c.in-Err.unread c.in-Err.ensures

pub returns-in-Err-identifier : goal.returns-in-Err-identifier
returns-in-Err-identifier c =
    let p = c.in-Ok.parts in
    bad_group c.args.fields.now (p.0, (p.1.now, (p.2.now, p.3))) c.in-Ok.ensures c.in-Err-identifier.unread c.in-Err-identifier.ensures

pub returns-in-Err-identifier-2 : goal.returns-in-Err-identifier-2
returns-in-Err-identifier-2 c =
    let p = c.in-Ok.parts in
    bad_worker c.args.fields.now (p.0, (p.1.now, (p.2.now, p.3))) c.in-Ok.ensures c.in-Err-identifier-2.unread c.in-Err-identifier-2.ensures

pub returns : goal.returns
returns c =
    let p = c.in-Ok.parts in
    is_claim c.args.fields.now (p.0, (p.1.now, (p.2.now, p.3))) c.in-Ok.ensures (λ i. omega (arith, c.type_inv.fields i))
    (record { taken_until = p.0; worker_group = c.in-Ok-identifier.identifier; worker_id = c.in-Ok-identifier-2.identifier; runs = p.3 }) refl refl c.in-Ok-identifier.ensures.0 c.in-Ok-identifier-2.ensures.0
