use Rattle.std.proofs.Common.{◌≡◌, ◌<◌, ◌^◌}
use Rattle.farm_serving.specs.Connections.{station}
use Rattle.farm_serving.specs.Serving.{Works}
use Rattle.farm_serving.proofs.worker.Worker.serve.Given as goal

-- so many accepts were made, and the desk can be counted
abbrev pub invariant-accepts : goal.invariant-accepts
invariant-accepts g l =
    (g.K.Desk.home l.desk ≡ g.K.Desk.home l.initial.desk)
    × (g.K.Spare.spare l.initial.desk < 2 ^ 64)
    × Works l._made (record { stands = g.K.Desk.stands l.initial.desk; spare = g.K.Spare.spare l.initial.desk }) (record { stands = g.K.Desk.stands l.desk; spare = g.K.Spare.spare l.desk }) (station (g.C.Clock.told l.initial.self.clock) (g.I.Draws.told l.initial.self.draws) (g.G.Gate.told l.initial.self.gate) (g.D.Listener.given l.initial.self.door) (g.D.Listener.taken l.initial.self.door) (g.D.Listener.out l.initial.self.door) (g.D.Listener.accepts l.initial.self.door) (g.D.Listener.faults l.initial.self.door)) (station (g.C.Clock.told l.self.clock) (g.I.Draws.told l.self.draws) (g.G.Gate.told l.self.gate) (g.D.Listener.given l.self.door) (g.D.Listener.taken l.self.door) (g.D.Listener.out l.self.door) (g.D.Listener.accepts l.self.door) (g.D.Listener.faults l.self.door)) l.ended
