use Rattle.std.proofs.Common.{codes}
use Rattle.std.proofs.lemmas.Result.{on_ok_weaker}
use Rattle.farm_text.specs.Document.{Document, text}
use Rattle.task_defs.proofs.WritingLemmas.{spelled, four_written}
use Rattle.task_defs.proofs.full_text.write_work.Goals as goal

pub returns-clause-ok : goal.returns-clause-ok
returns-clause-ok c =
    on_ok_weaker c.write_text.result (λ last. four_written _ _ _ _ _ _ _ _ _
    (spelled (codes "extra") (λ (d : Document). d) _ _ _ _ c.as_doc.ensures c.in_ok-write_doc.ensures.ok)
    c.in_ok-write_metadata.ensures.ok
    (spelled (codes "payload") (λ (d : Document). d) _ _ _ _ c.as_doc-2.ensures c.in_ok-write_doc-2.ensures.ok)
    (spelled (codes "priority") text _ _ _ _ c.name.ensures last)) c.write_text.ensures.ok
