use Rattle.std.proofs.Common.{◌≡◌, ℕ, ◌<◌, ◌≤◌, ◌-◌, List, ◌++◌, vec_len}
use Rattle.std.specs.Io.KnownBytes.{prepend_known, Keeps}
use Rattle.http_wire.specs.Head.{head_limit, IsOpen}
use Rattle.http_wire.proofs.reader.await_line.Given as goal

-- the stream stays as it was, no line has ended since, and the link is else as it was
abbrev pub invariant-pieces : goal.invariant-pieces
invariant-pieces g l = record {
  short : vec_len l.held < head_limit;
  neither : IsOpen l.held.items;
  grown : (seen : List ℕ) × (l.held.items ≡ l.initial.held.items ++ seen);
  longer : vec_len l.initial.held ≤ vec_len l.held;
  kept : Keeps (prepend_known l.initial.held.items (g.L.Link.left l.initial.link)) (prepend_known l.held.items (g.L.Link.left l.link));
  reads : g.L.Link.read_faults l.link ≡ g.L.Link.read_faults l.initial.link;
  written : g.L.Link.written l.link ≡ g.L.Link.written l.initial.link;
  write_faults : g.L.Link.write_faults l.link ≡ g.L.Link.write_faults l.initial.link;
}

abbrev pub decreases-pieces : goal.decreases-pieces
decreases-pieces g l = head_limit - vec_len l.held
