-- No worker does nothing.
use Rattle.farm_serving.proofs.ServingLemmas.{ServesLegal-none, no_worker}
use Rattle.farm_serving.proofs.halves.serve_row.Goals as goal

pub returns-then-is_empty : goal.returns-then-is_empty
returns-then-is_empty g c =
    let none = no_worker g.W.Serve.station c.args.workers.now c.is_empty.result c.if-is_empty.true c.is_empty.ensures in
    ServesLegal-none c.args.connections (g.P.Share.standing c.args.share.now) _ _ c.nothing.result none none c.nothing.ensures
