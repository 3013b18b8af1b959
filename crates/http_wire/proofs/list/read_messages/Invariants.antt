use Rattle.std.proofs.Common.{◌≡◌, ◌<◌, ◌≤◌, ◌-◌, length, vec_len}
use Rattle.std.specs.Io.KnownBytes.{prepend_known}
use Rattle.http_wire.specs.Whole.{piece_size}
use Rattle.http_wire.proofs.Taken.{TakesKnown, NoneCloses}
use Rattle.http_wire.proofs.list.read_messages.Given as goal

-- the messages so far were taken from the stream, none of them closes, less than a piece is held, and the link is else as it was
abbrev pub invariant-messages : goal.invariant-messages
invariant-messages g l = record {
  took : TakesKnown (g.L.Link.left l.initial.link) l.messages.items (prepend_known l.reader (g.L.Link.left l.link));
  none : NoneCloses l.messages.items;
  few : length l.reader < piece_size;
  fits : vec_len l.messages ≤ l.room;
  reads : g.L.Link.read_faults l.link ≡ g.L.Link.read_faults l.initial.link;
  written : g.L.Link.written l.link ≡ g.L.Link.written l.initial.link;
  write_faults : g.L.Link.write_faults l.link ≡ g.L.Link.write_faults l.initial.link;
}

abbrev pub decreases-messages : goal.decreases-messages
decreases-messages g l = l.room - vec_len l.messages
