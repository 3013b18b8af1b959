use Rattle.std.proofs.Common.{◌≡◌, ◌+◌, ◌-◌, ◌≤◌, vec_len}
use Rattle.std.specs.Io.KnownBytes.{prepend_known, Keeps}
use Rattle.http_wire.specs.Whole.{piece_size}
use Rattle.http_wire.proofs.whole.read_all.Given as goal

-- the bytes so far and those that are left are all that were left, and the link is else as it was
abbrev pub invariant-loop-bytes : goal.invariant-loop-bytes
invariant-loop-bytes g l = record {
  kept : Keeps (g.L.Link.left l.initial.link) (prepend_known l.bytes.items (g.L.Link.left l.link));
  within : vec_len l.bytes ≤ l.most + piece_size;
  reads : g.L.Link.read_faults l.link ≡ g.L.Link.read_faults l.initial.link;
  written : g.L.Link.written l.link ≡ g.L.Link.written l.initial.link;
  write_faults : g.L.Link.write_faults l.link ≡ g.L.Link.write_faults l.initial.link;
}

abbrev pub decreases-loop-bytes : goal.decreases-loop-bytes
decreases-loop-bytes g l = (l.most + 1) - vec_len l.bytes
