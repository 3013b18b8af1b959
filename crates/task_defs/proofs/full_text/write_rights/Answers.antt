use Rattle.std.proofs.Common.{codes}
use Rattle.std.proofs.lemmas.Result.{on_ok_weaker}
use Rattle.farm_text.specs.Document.{Document, text}
use Rattle.task_defs.specs.Definitions.{text_list}
use Rattle.task_defs.proofs.WritingLemmas.{spelled, four_written}
use Rattle.task_defs.proofs.full_text.write_rights.Goals as goal

pub returns-clause-ok : goal.returns-clause-ok
returns-clause-ok c =
    on_ok_weaker c.write_doc.result (λ last. four_written _ _ _ _ _ _ _ _ _
    (spelled (codes "routes") text_list _ _ _ _ c.list.ensures c.in_ok-write_routes.ensures.ok)
    (spelled (codes "schedulerId") text _ _ _ _ c.as_str.ensures.value c.in_ok-write_text.ensures.ok)
    (spelled (codes "scopes") text_list _ _ _ _ c.list-2.ensures c.in_ok-write_scopes.ensures.ok)
    (spelled (codes "tags") (λ (d : Document). d) _ _ _ _ c.as_doc.ensures.map last)) c.write_doc.ensures.ok
