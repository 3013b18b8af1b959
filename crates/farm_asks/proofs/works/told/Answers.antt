use Rattle.farm_asks.specs.Tellings.{told_by}
use Rattle.task_statuses.proofs.WritingLemmas.{text_of}
use Rattle.farm_asks.proofs.works.told.Goals as goal

pub returns : goal.returns
returns c =
    text_of c.new-out.result.tokens c.write_told.new.out.tokens c.from_writer.result (told_by c.args.telling c.args.rows.now) c.new-out.ensures.tokens c.in_ok-write_told.ensures.ok c.from_writer.ensures.text
