use Rattle.std.proofs.Common.{arith}
use Rattle.farm_record.proofs.RecordLemmas.{fails_byte, fails_number, fails_moment, fails_kind, is_record}
use Rattle.farm_record.proofs.reading.change.Goals as goal

pub returns-in-Err : goal.returns-in-Err
returns-in-Err c = fails_byte c.args.bytes.now c.in-Err.unread c.in-Err.ensures

pub returns-in-Err-u64_of : goal.returns-in-Err-u64_of
returns-in-Err-u64_of c =
    let one = c.in-Ok in
    fails_number c.args.bytes.now one.read.0 one.read.1.now one.ensures c.in-Err-u64_of.unread c.in-Err-u64_of.ensures

pub returns-in-Err-moment : goal.returns-in-Err-moment
returns-in-Err-moment c =
    let one = c.in-Ok in
    let two = c.in-Ok-u64_of in
    fails_moment c.args.bytes.now one.read.0 one.read.1.now one.ensures two.read.0 two.read.1.now two.ensures c.in-Err-moment.unread c.in-Err-moment.ensures

pub returns-in-Ok-kind : goal.returns-in-Ok-kind
returns-in-Ok-kind c =
    let one = c.in-Ok in
    let two = c.in-Ok-u64_of in
    is_record c.args.bytes.now one.read.0 one.read.1.now one.ensures two.read.0 two.read.1.now two.ensures c.in-Ok-moment.at c.in-Ok-moment.ensures (λ i. omega (arith, c.type_inv.bytes i)) c.in-Ok-kind.kind c.in-Ok-kind.ensures

pub returns-in-Err-kind : goal.returns-in-Err-kind
returns-in-Err-kind c =
    let one = c.in-Ok in
    let two = c.in-Ok-u64_of in
    fails_kind c.args.bytes.now one.read.0 one.read.1.now one.ensures two.read.0 two.read.1.now two.ensures c.in-Ok-moment.at c.in-Ok-moment.ensures c.in-Err-kind.unread c.in-Err-kind.ensures
