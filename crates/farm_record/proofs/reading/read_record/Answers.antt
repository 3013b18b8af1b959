use Rattle.std.proofs.Common.{subst}
use Rattle.farm_record.specs.Records.{IsRecord}
use Rattle.farm_record.specs.Reading.{Refuses}
use Rattle.farm_record.proofs.RecordLemmas.{found, nothing}
use Rattle.farm_record.proofs.reading.read_record.Goals as goal

pub returns-in-Ok : goal.returns-in-Ok
returns-in-Ok c = found c.args.bytes.now c.in-Ok.change c.in-Ok.ensures

pub returns-in-Err-NotARecord : goal.returns-in-Err-NotARecord
returns-in-Err-NotARecord c =
    nothing c.args.bytes.now (subst (Refuses (λ change. IsRecord change c.args.bytes.now)) c.in-Err-NotARecord.field-0-is c.in-Err-NotARecord.ensures)
