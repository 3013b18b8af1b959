use Rattle.std.proofs.Common.{inl, inr, refl, arith, rules}
use Rattle.disk_base.proofs.HistoryLemmas.{sync_done}
use Rattle.disk_base.proofs.memory.MemoryDiskDisk.sync.Goals as goal
use Rattle.disk_base.proofs.memory.MemoryDiskDisk.sync.Goals.{then-len-capacity-via-then-len-capacity, then-len-capacity-via-else-len-capacity+then-contains}

pub returns-then-len-capacity-clause-fails : goal.returns-then-len-capacity-clause-fails
returns-then-len-capacity-clause-fails c =
    elim c.then-len-capacity.branch [ then-len-capacity-via-then-len-capacity w ↦ (λ _. inr (omega arith), λ _. refl) | then-len-capacity-via-else-len-capacity+then-contains w ↦ (λ _. inl (search rules), λ _. refl) ]

pub returns-clause-syncs : goal.returns-clause-syncs
returns-clause-syncs c tells = sync_done tt (record {}) _ _ _ c.keep_sync.ensures.calls
