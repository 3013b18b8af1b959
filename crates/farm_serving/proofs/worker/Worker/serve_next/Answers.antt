-- One accept, and what came of it.
use Rattle.std.proofs.Common.{refl, sym, subst}
use Rattle.farm_server.specs.Served.{Standing}
use Rattle.farm_serving.specs.Connections.{Station, station}
use Rattle.farm_serving.specs.Serving.{Works}
use Rattle.farm_serving.specs.declared.ended.Ended.{Ended}
use Rattle.farm_serving.proofs.ConnectionLemmas.{Works-refused, Works-one}
use Rattle.farm_serving.proofs.worker.Worker.serve_next.Goals as goal

pub returns-in-Err-clause-works : goal.returns-in-Err-clause-works
returns-in-Err-clause-works g c =
    let own = c.args.self.now in
    let at : _ → Station = λ door. station (g.C.Clock.told own.clock) (g.I.Draws.told own.draws) (g.G.Gate.told own.gate) (g.D.Listener.given door) (g.D.Listener.taken door) (g.D.Listener.out door) (g.D.Listener.accepts door) (g.D.Listener.faults door) in
    let here : Standing = record { stands = g.K.Desk.stands c.args.desk.now; spare = g.K.Spare.spare c.args.desk.now } in
    let told = c.in-Err.ensures in
    subst (λ (e : Ended). Works 1 here here (at own.door) (at c.accept.new.self) e) (sym c.refused.ensures) (Works-refused here (at own.door) (at c.accept.new.self) refl told.given told.taken told.out told.accepts told.cause.failed)

pub returns-in-Ok-clause-works : goal.returns-in-Ok-clause-works
returns-in-Ok-clause-works g c =
    let own = c.args.self.now in
    let after = c.serve_peer.new.self in
    let at : _ → Station = λ door. station (g.C.Clock.told own.clock) (g.I.Draws.told own.draws) (g.G.Gate.told own.gate) (g.D.Listener.given door) (g.D.Listener.taken door) (g.D.Listener.out door) (g.D.Listener.accepts door) (g.D.Listener.faults door) in
    let then : Station = station (g.C.Clock.told after.clock) (g.I.Draws.told after.draws) (g.G.Gate.told after.gate) (g.D.Listener.given after.door) (g.D.Listener.taken after.door) (g.D.Listener.out after.door) (g.D.Listener.accepts after.door) (g.D.Listener.faults after.door) in
    let here : Standing = record { stands = g.K.Desk.stands c.args.desk.now; spare = g.K.Spare.spare c.args.desk.now } in
    let there : Standing = record { stands = g.K.Desk.stands c.serve_peer.new.desk; spare = g.K.Spare.spare c.serve_peer.new.desk } in
    let told = c.in-Ok.ensures in
    Works-one _ here there (at own.door) (at c.accept.new.self) then c.serve_peer.result refl told.given told.taken told.out told.accepts told.cause.kept c.serve_peer.ensures.serves
