use Rattle.std.proofs.Common.{codes}
use Rattle.std.proofs.lemmas.Result.{on_ok_weaker}
use Rattle.farm_text.specs.Document.{text}
use Rattle.task_defs.proofs.WritingLemmas.{spelled, four_written}
use Rattle.task_defs.proofs.full_text.write_owner.Goals as goal

pub returns-clause-ok : goal.returns-clause-ok
returns-clause-ok c =
    on_ok_weaker c.write_number.result (λ last. four_written _ _ _ _ _ _ _ _ _
    (spelled (codes "projectId") text _ _ _ _ c.as_str.ensures.value c.in_ok-write_text.ensures.ok)
    (spelled (codes "provisionerId") text _ _ _ _ c.as_str-2.ensures.value c.in_ok-write_text-2.ensures.ok)
    (spelled (codes "requires") text _ _ _ _ c.name.ensures c.in_ok-write_text-3.ensures.ok) last) c.write_number.ensures.ok
