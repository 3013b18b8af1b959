use Rattle.task_statuses.specs.Statuses.{definition_of}
use Rattle.task_statuses.proofs.WritingLemmas.{text_of}
use Rattle.farm_asks.proofs.bodies.definition_text.Goals as goal

pub returns : goal.returns
returns c =
    text_of c.new-out.result.tokens c.write_definition.new.out.tokens c.from_writer.result (definition_of c.args.definition.now) c.new-out.ensures.tokens c.in_ok-write_definition.ensures.ok c.from_writer.ensures.text
