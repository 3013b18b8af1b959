use Rattle.farm_asks.specs.Shown.{conflict_body}
use Rattle.task_statuses.proofs.WritingLemmas.{text_of}
use Rattle.farm_asks.proofs.bodies.conflict_text.Goals as goal

pub returns : goal.returns
returns c =
    text_of c.new-out.result.tokens c.write_conflict.new.out.tokens c.from_writer.result (conflict_body c.args.rule c.args.row.now) c.new-out.ensures.tokens c.in_ok-write_conflict.ensures.ok c.from_writer.ensures.text
