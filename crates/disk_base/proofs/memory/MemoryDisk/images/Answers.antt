use Rattle.std.proofs.lemmas.Result.{IfOk-weaker}
use Rattle.disk_base.specs.HistoryLaws.{left_now}
use Rattle.disk_base.proofs.ImageLemmas.{may_leave_same}
use Rattle.disk_base.proofs.memory.MemoryDisk.images.Goals as goal

pub returns : goal.returns
returns c = IfOk-weaker c.images_after.result _ _ (λ images all k d within. left_now _ _ _ (may_leave_same _ _ _ _ _ _ _ c.deref.ensures.value c.deref-2.ensures.value c.deref-3.ensures.value (all k d within))) c.images_after.ensures
