use Rattle.std.proofs.Common.{◌≡◌, ◌-◌, ◌^◌, take, vec_len}
use Rattle.disk_journal.specs.Opening.{IsStill}
use Rattle.disk_journal.proofs.reading.read_disk.Given as goal

abbrev pub invariant-loop-bytes : goal.invariant-loop-bytes
invariant-loop-bytes g l = record {
  still : g.D.Disk.tells → IsStill (g.D.Disk.contents l.initial.disk) (g.D.Disk.contents l.disk);
  front : g.D.Disk.tells → l.bytes.items ≡ take (vec_len l.bytes) (g.D.Disk.contents l.initial.disk).bytes;
  faults : g.D.Disk.faults l.disk ≡ g.D.Disk.faults l.initial.disk;
}

abbrev pub decreases-loop-bytes : goal.decreases-loop-bytes
decreases-loop-bytes g l = 2 ^ 64 - vec_len l.bytes
