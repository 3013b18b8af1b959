use Rattle.disk_base.proofs.HistoryLemmas.{cut_done, cut_failed, shortened_left}
use Rattle.disk_base.proofs.memory.MemoryDiskDisk.cut.Goals as goal

pub returns-then-chosen-clause-cuts : goal.returns-then-chosen-clause-cuts
returns-then-chosen-clause-cuts c tells = cut_failed tt _ _ _ _ _ _ c.if-chosen.true c.keep_cut.ensures.calls

pub returns-clause-cuts : goal.returns-clause-cuts
returns-clause-cuts c tells = cut_done tt (record {}) _ _ _ _ _ c.if-chosen.false c.keep_cut.ensures.calls

pub returns-then-chosen-clause-short : goal.returns-then-chosen-clause-short
returns-then-chosen-clause-short c room = shortened_left _ _ _ _ _ c.keep_cut.ensures.calls

pub returns-clause-short : goal.returns-clause-short
returns-clause-short c room = shortened_left _ _ _ _ _ c.keep_cut.ensures.calls
