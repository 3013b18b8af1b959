use Rattle.std.proofs.lemmas.Result.{on_ok_weaker}
use Rattle.farm_crews.specs.Crew.{station_by}
use Rattle.farm_crews.proofs.CrewLemmas.{IsWholeCrew-made, IsKeptCrew-made, IsDoorFailed-made, if_err}
use Rattle.farm_crews.proofs.crew.gather.Goals as goal

pub returns-clause-whole : goal.returns-clause-whole
returns-clause-whole g c =
    on_ok_weaker c.add_others-gathered.result (λ all. IsWholeCrew-made (station_by g.D.Listener g.C.Clock g.I.Draws) c.args.count (station_by g.D.Listener g.C.Clock g.I.Draws c.args.first) c.add_others-gathered.new.first c.add_others-gathered.new.others.items c.insert.new.self.items
    c.in-Ok.ensures.items c.add_others-gathered.ensures.still c.add_others-gathered.ensures.beside c.requires.some all.0 all.1) c.add_others-gathered.ensures.all

pub returns-clause-cause : goal.returns-clause-cause
returns-clause-cause g c =
    if_err c.add_others-gathered.result (λ lack cause is. IsDoorFailed-made (station_by g.D.Listener g.C.Clock g.I.Draws) (station_by g.D.Listener g.C.Clock g.I.Draws c.args.first) c.add_others-gathered.new.first c.add_others-gathered.new.others.items c.insert.new.self.items
    c.in-Ok.ensures.items c.add_others-gathered.ensures.still c.add_others-gathered.ensures.beside (cause is)) c.add_others-gathered.ensures.cause

pub returns-clause-spared : goal.returns-clause-spared
returns-clause-spared g c =
    if_err c.add_others-gathered.result (λ lack kept is. IsKeptCrew-made (station_by g.D.Listener g.C.Clock g.I.Draws) (station_by g.D.Listener g.C.Clock g.I.Draws c.args.first) c.add_others-gathered.new.first c.add_others-gathered.new.others.items c.insert.new.self.items
    c.in-Ok.ensures.items c.add_others-gathered.ensures.still c.add_others-gathered.ensures.beside (kept is)) c.add_others-gathered.ensures.spared
