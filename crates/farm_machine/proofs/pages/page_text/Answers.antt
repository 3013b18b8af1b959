use Rattle.std.proofs.Common.{map, Bor}
use Rattle.run_states.specs.Rows.{Row}
use Rattle.farm_machine.specs.Pages.{page_doc}
use Rattle.task_statuses.proofs.WritingLemmas.{text_of}
use Rattle.farm_machine.proofs.pages.page_text.Goals as goal

pub returns : goal.returns
returns c =
    text_of c.new-out.result.tokens c.write_page.new.out.tokens c.from_writer.result (page_doc c.args.list.now c.args.token (map (λ (r : Bor Row). r.now) c.args.rows.now)) c.new-out.ensures.tokens c.in_ok-write_page.ensures.ok c.from_writer.ensures.text
