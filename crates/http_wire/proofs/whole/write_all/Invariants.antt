use Rattle.std.proofs.Common.{◌≡◌, length}
use Rattle.http_wire.proofs.WholeLemmas.{HasWritten}
use Rattle.http_wire.proofs.whole.write_all.Given as goal

abbrev pub invariant-loop-rest : goal.invariant-loop-rest
invariant-loop-rest g l =
    HasWritten (g.L.Link.written l.initial.link) (g.L.Link.written l.link) l.bytes l.rest
    × (g.L.Link.write_faults l.link ≡ g.L.Link.write_faults l.initial.link)
    × (g.L.Link.left l.link ≡ g.L.Link.left l.initial.link)
    × (g.L.Link.read_faults l.link ≡ g.L.Link.read_faults l.initial.link)

abbrev pub decreases-loop-rest : goal.decreases-loop-rest
decreases-loop-rest g l = length l.rest
