-- A row of one worker did what this one did.
use Rattle.farm_serving.proofs.ServingLemmas.{ServesLegal-row}
use Rattle.farm_serving.proofs.halves.serve_one.Goals as goal

pub returns : goal.returns
returns g c =
    ServesLegal-row c.args.connections (g.P.Share.standing c.args.share.now) (g.P.Share.standing c.serve_over.new.share) g.W.Serve.station c.args.workers.now c.index-workers-0.result c.serve_over.new.self c.serve_over.result c.requires.one c.serve_over.ensures
