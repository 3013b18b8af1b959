use Rattle.farm_asks.specs.Replies.{status_body}
use Rattle.task_statuses.proofs.WritingLemmas.{text_of}
use Rattle.farm_asks.proofs.bodies.status_text.Goals as goal

pub returns : goal.returns
returns c =
    text_of c.new-out.result.tokens c.write_status_body.new.out.tokens c.from_writer.result (status_body c.args.row.now) c.new-out.ensures.tokens c.in_ok-write_status_body.ensures.ok c.from_writer.ensures.text
