-- What a worker did over a pass.
use Rattle.farm_serving.specs.Connections.{Station, station}
use Rattle.farm_serving.proofs.ServingLemmas.{ServesLegal-one}
use Rattle.farm_serving.proofs.share.WorkerServePass.serve_over.Goals as goal

pub returns : goal.returns
returns g c =
    let own = c.args.self.now in
    let after = c.serve.new.self in
    let first : Station = station (g.C.Clock.told own.clock) (g.I.Draws.told own.draws) (g.G.Gate.told own.gate) (g.D.Listener.given own.door) (g.D.Listener.taken own.door) (g.D.Listener.out own.door) (g.D.Listener.accepts own.door) (g.D.Listener.faults own.door) in
    let last : Station = station (g.C.Clock.told after.clock) (g.I.Draws.told after.draws) (g.G.Gate.told after.gate) (g.D.Listener.given after.door) (g.D.Listener.taken after.door) (g.D.Listener.out after.door) (g.D.Listener.accepts after.door) (g.D.Listener.faults after.door) in
    ServesLegal-one c.args.connections c.args.share.now c.serve.new.desk first last c.serve.result c.serve.ensures.home c.serve.ensures.works
