use Rattle.std.proofs.Common.{codes, ◌∙◌}
use Rattle.std.proofs.lemmas.Result.{on_ok_weaker}
use Rattle.farm_text.specs.Document.{text}
use Rattle.task_defs.proofs.WritingLemmas.{spelled, three_written}
use Rattle.task_defs.proofs.full_text.write_place.Goals as goal

pub returns-clause-ok : goal.returns-clause-ok
returns-clause-ok c =
    on_ok_weaker c.write_text-2.result (λ last. three_written _ _ _ _ _ _ _ c.in_ok-write_slug.ensures.ok
    (spelled (codes "taskQueueId") text _ _ _ _ (c.as_str.ensures ∙ c.in_ok-name.ensures) c.in_ok-write_text.ensures.ok)
    (spelled (codes "workerType") text _ _ _ _ c.as_str-2.ensures.value last)) c.write_text-2.ensures.ok
