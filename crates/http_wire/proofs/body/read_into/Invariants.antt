use Rattle.std.proofs.Common.{◌≡◌, ◌-◌, ◌≤◌, length, take}
use Rattle.std.specs.Io.KnownBytes.{Consumes}
use Rattle.http_wire.proofs.body.read_into.Given as goal

-- what was filled so far is what was read, and the link is else as it was
abbrev pub invariant-loop-filled : goal.invariant-loop-filled
invariant-loop-filled g l = record {
  same_length : length l.buf ≡ length l.initial.buf;
  within : l.filled ≤ length l.buf;
  bytes : Consumes (g.L.Link.left l.initial.link) (g.L.Link.left l.link) (take l.filled l.buf);
  reads : g.L.Link.read_faults l.link ≡ g.L.Link.read_faults l.initial.link;
  written : g.L.Link.written l.link ≡ g.L.Link.written l.initial.link;
  write_faults : g.L.Link.write_faults l.link ≡ g.L.Link.write_faults l.initial.link;
  untouched : length l.initial.buf ≡ 0 → l.link ≡ l.initial.link;
}

abbrev pub decreases-loop-filled : goal.decreases-loop-filled
decreases-loop-filled g l = length l.buf - l.filled
