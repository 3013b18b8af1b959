use Rattle.std.proofs.Common.{◌≡◌, ◌+◌, ◌-◌, ◌<◌, ◌≤◌, length}
use Rattle.std.specs.Io.KnownBytes.{prepend_known}
use Rattle.http_wire.specs.Whole.{piece_size}
use Rattle.farm_server.specs.Served.{Outside, ServesWithin}
use Rattle.farm_server.specs.declared.served.Served.{Served}
use Rattle.farm_server.specs.declared.served.TheConstants.{REQUESTS}
use Rattle.farm_server.proofs.connection.serve_routed.Given as goal

-- less than a piece is held, and whatever follows, with the room that is left, makes the whole
abbrev pub invariant-requests : goal.invariant-requests
invariant-requests g l =
    (g.K.Desk.home l.desk ≡ g.K.Desk.home l.initial.desk)
    × (REQUESTS ≤ g.K.Spare.spare l.desk + l.place)
    × (length l.reader < piece_size)
    × ((desk : _) (after : Outside) (served : Served)
    → ServesWithin (REQUESTS - l.place) (record { stands = g.K.Desk.stands l.desk; spare = g.K.Spare.spare l.desk }) (record { stands = g.K.Desk.stands desk; spare = g.K.Spare.spare desk }) (record { left = prepend_known l.reader (g.L.Link.left l.link); written = g.L.Link.written l.link; moments = g.C.Clock.told l.clock; ids = g.R.Draws.told l.draws; gate = g.G.Gate.told l.gate; read_faults = g.L.Link.read_faults l.link; write_faults = g.L.Link.write_faults l.link }) after served
    → ServesWithin REQUESTS (record { stands = g.K.Desk.stands l.initial.desk; spare = g.K.Spare.spare l.initial.desk }) (record { stands = g.K.Desk.stands desk; spare = g.K.Spare.spare desk }) (record { left = g.L.Link.left l.initial.link; written = g.L.Link.written l.initial.link; moments = g.C.Clock.told l.initial.clock; ids = g.R.Draws.told l.initial.draws; gate = g.G.Gate.told l.initial.gate; read_faults = g.L.Link.read_faults l.initial.link; write_faults = g.L.Link.write_faults l.initial.link }) after served)
