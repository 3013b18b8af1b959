use Rattle.http_wire.specs.Head.{head_limit}
use Rattle.std.proofs.Common.{◌≡◌, ◌-◌, length, vec_len}
use Rattle.std.specs.Io.KnownBytes.{prepend_known, Keeps}
use Rattle.http_wire.specs.declared.head.TheConstants.{FIELD_LIMIT}
use Rattle.http_wire.specs.Needed.{IsUnfinished, GrowsNeeded}
use Rattle.http_wire.proofs.reader.read_head.Given as goal

-- the stream stays as it was, and the link is else as it was; where no unfinished message was held at first, both are untouched
abbrev pub invariant-loop-at : goal.invariant-loop-at
invariant-loop-at g l = record {
  room : length l.spans ≡ FIELD_LIMIT;
  kept : Keeps (prepend_known l.initial.held.items (g.L.Link.left l.initial.link)) (prepend_known l.held.items (g.L.Link.left l.link));
  reads : g.L.Link.read_faults l.link ≡ g.L.Link.read_faults l.initial.link;
  written : g.L.Link.written l.link ≡ g.L.Link.written l.initial.link;
  write_faults : g.L.Link.write_faults l.link ≡ g.L.Link.write_faults l.initial.link;
  untouched : ¬ IsUnfinished l.initial.held.items → (l.link ≡ l.initial.link) × (l.held.items ≡ l.initial.held.items);
  grown : GrowsNeeded l.initial.held.items l.held.items;
}

abbrev pub decreases-loop-at : goal.decreases-loop-at
decreases-loop-at g l = head_limit - vec_len l.held
