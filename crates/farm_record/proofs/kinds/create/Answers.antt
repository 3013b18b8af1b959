use Rattle.std.proofs.Common.{arith}
use Rattle.farm_record.proofs.CreateLemmas.{no_head, id_is, no_definition, is_creation}
use Rattle.farm_record.proofs.kinds.create.Goals as goal

pub definition-requires : goal.definition-requires
definition-requires c =
    let p = c.in-Ok.parts in
    id_is c.args.fields.now p.0 p.1.now c.in-Ok.ensures (λ i. omega (arith, c.type_inv.fields i))

pub returns-in-Err : goal.returns-in-Err
returns-in-Err c = no_head c.args.fields.now c.in-Err.unread c.in-Err.ensures

pub returns-in-Ok-definition : goal.returns-in-Ok-definition
returns-in-Ok-definition c =
    let p = c.in-Ok.parts in
    is_creation c.args.fields.now p.0 p.1.now c.in-Ok.ensures (λ i. omega (arith, c.type_inv.fields i)) c.in-Ok-definition.definition c.in-Ok-definition.ensures

pub returns-in-Err-definition : goal.returns-in-Err-definition
returns-in-Err-definition c =
    let p = c.in-Ok.parts in
    no_definition c.args.fields.now p.0 p.1.now c.in-Ok.ensures c.in-Err-definition.unread c.in-Err-definition.ensures
