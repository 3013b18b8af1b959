use Rattle.farm_record.proofs.WriteLemmas.{whole, full_fields, said_fields}
use Rattle.farm_record.specs.Fields.{moment_text}
use Rattle.farm_record.specs.Records.{kind_number}
use Rattle.farm_record.proofs.writing.write_record.Goals as goal

pub returns-clause-text : goal.returns-clause-text
returns-clause-text c =
    let change = c.args.change.now in
    let fields = c.in_ok-put_fields.ensures in record {
      moment = c.put_moment.ensures.within;
      fields = fields.0;
      has = full_fields change.kind fields.0 fields.1;
      is = whole c.new-out.result.items c.push.new.self.items c.put_moment.new.out.items c.put_fields.new.out.items (moment_text change.at) fields.0 c.kind_number.result (kind_number change.kind) c.new-out.ensures.items c.in_ok-push.ensures.items
          c.kind_number.ensures c.in_ok-put_moment.ensures.text fields.2;
    }

pub returns-clause-record : goal.returns-clause-record
returns-clause-record c = λ said.
    let change = c.args.change.now in
    let fields = c.in_ok-put_fields.ensures in record {
      moment = c.put_moment.ensures.within;
      fields = fields.0;
      has = said_fields change.kind fields.0 said fields.1;
      is = whole c.new-out.result.items c.push.new.self.items c.put_moment.new.out.items c.put_fields.new.out.items (moment_text change.at) fields.0 c.kind_number.result (kind_number change.kind) c.new-out.ensures.items c.in_ok-push.ensures.items
          c.kind_number.ensures c.in_ok-put_moment.ensures.text fields.2;
    }
