use Rattle.std.proofs.Common.{◌≡◌, All, take}
use Rattle.plain_text.specs.Plain.{IsKept, escaped}
use Rattle.plain_text.proofs.escapes.escaped.Given as goal

abbrev pub invariant-loop-byte : goal.invariant-loop-byte
invariant-loop-byte l = (l.bytes.items ≡ escaped l.feeds (take l.byte-index l.text)) × All (IsKept l.feeds) l.bytes.items
