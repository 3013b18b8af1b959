use Rattle.disk_base.proofs.HistoryLemmas.{wrote_done, wrote_failed, torn_left}
use Rattle.disk_base.proofs.memory.MemoryDiskDisk.write_at.Goals as goal

pub returns-then-chosen-clause-writes : goal.returns-then-chosen-clause-writes
returns-then-chosen-clause-writes c tells = wrote_failed tt _ _ _ _ _ _ _ c.if-chosen.true c.keep_write.ensures.calls

pub returns-clause-writes : goal.returns-clause-writes
returns-clause-writes c tells = wrote_done tt (record {}) _ _ _ _ _ _ c.if-chosen.false c.keep_write.ensures.calls

pub returns-then-chosen-clause-torn : goal.returns-then-chosen-clause-torn
returns-then-chosen-clause-torn c room = torn_left _ _ _ _ _ _ c.keep_write.ensures.calls

pub returns-clause-torn : goal.returns-clause-torn
returns-clause-torn c room = torn_left _ _ _ _ _ _ c.keep_write.ensures.calls
