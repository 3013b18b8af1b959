-- Accepts in turn.
use Rattle.std.proofs.Common.{◌≡◌, ℕ, ◌+◌, refl, sym, ◌∙◌, subst, arith}
use Rattle.farm_server.specs.Served.{Standing}
use Rattle.farm_serving.specs.Connections.{Station, station}
use Rattle.farm_serving.specs.Serving.{Works}
use Rattle.farm_serving.specs.declared.ended.Ended.{Ended}
use Rattle.farm_serving.proofs.ConnectionLemmas.{Works-none, Works-then, Works-fit, Works-room}
use Rattle.farm_serving.proofs.worker.Worker.serve.Goals as goal

pub accepts-init : goal.accepts-init
accepts-init g c =
    let old : Standing = record { stands = g.K.Desk.stands c.args.desk.now; spare = g.K.Spare.spare c.args.desk.now } in
    let before : Station = station (g.C.Clock.told c.args.self.now.clock) (g.I.Draws.told c.args.self.now.draws) (g.G.Gate.told c.args.self.now.gate) (g.D.Listener.given c.args.self.now.door) (g.D.Listener.taken c.args.self.now.door) (g.D.Listener.out c.args.self.now.door) (g.D.Listener.accepts c.args.self.now.door) (g.D.Listener.faults c.args.self.now.door) in
    (refl, omega (arith, c.left-most.ensures), subst (λ (e : Ended). Works 0 old old before before e) (sym c.nothing-ended.ensures) (Works-none old before))

pub serve_next-one-requires : goal.serve_next-one-requires
serve_next-one-requires g c =
    let old : Standing = record { stands = g.K.Desk.stands c.args.desk.now; spare = g.K.Spare.spare c.args.desk.now } in
    let before : Station = station (g.C.Clock.told c.args.self.now.clock) (g.I.Draws.told c.args.self.now.draws) (g.G.Gate.told c.args.self.now.gate) (g.D.Listener.given c.args.self.now.door) (g.D.Listener.taken c.args.self.now.door) (g.D.Listener.out c.args.self.now.door) (g.D.Listener.accepts c.args.self.now.door) (g.D.Listener.faults c.args.self.now.door) in
    let middle : Standing = record { stands = g.K.Desk.stands c.accepts.desk; spare = g.K.Spare.spare c.accepts.desk } in
    let between : Station = station (g.C.Clock.told c.accepts.self.clock) (g.I.Draws.told c.accepts.self.draws) (g.G.Gate.told c.accepts.self.gate) (g.D.Listener.given c.accepts.self.door) (g.D.Listener.taken c.accepts.self.door) (g.D.Listener.out c.accepts.self.door) (g.D.Listener.accepts c.accepts.self.door) (g.D.Listener.faults c.accepts.self.door) in
    record { spare = Works-room c.accepts._made c.args.connections old middle before between c.accepts.ended c.accepts-test.true c.requires.spare c.accepts.invariant.2 }

pub plus-ended-requires : goal.plus-ended-requires
plus-ended-requires g c =
    let old : Standing = record { stands = g.K.Desk.stands c.args.desk.now; spare = g.K.Spare.spare c.args.desk.now } in
    let before : Station = station (g.C.Clock.told c.args.self.now.clock) (g.I.Draws.told c.args.self.now.draws) (g.G.Gate.told c.args.self.now.gate) (g.D.Listener.given c.args.self.now.door) (g.D.Listener.taken c.args.self.now.door) (g.D.Listener.out c.args.self.now.door) (g.D.Listener.accepts c.args.self.now.door) (g.D.Listener.faults c.args.self.now.door) in
    let middle : Standing = record { stands = g.K.Desk.stands c.accepts.desk; spare = g.K.Spare.spare c.accepts.desk } in
    let between : Station = station (g.C.Clock.told c.accepts.self.clock) (g.I.Draws.told c.accepts.self.draws) (g.G.Gate.told c.accepts.self.gate) (g.D.Listener.given c.accepts.self.door) (g.D.Listener.taken c.accepts.self.door) (g.D.Listener.out c.accepts.self.door) (g.D.Listener.accepts c.accepts.self.door) (g.D.Listener.faults c.accepts.self.door) in
    let new : Standing = record { stands = g.K.Desk.stands c.serve_next-one.new.desk; spare = g.K.Spare.spare c.serve_next-one.new.desk } in
    let after : Station = station (g.C.Clock.told c.serve_next-one.new.self.clock) (g.I.Draws.told c.serve_next-one.new.self.draws) (g.G.Gate.told c.serve_next-one.new.self.gate) (g.D.Listener.given c.serve_next-one.new.self.door) (g.D.Listener.taken c.serve_next-one.new.self.door) (g.D.Listener.out c.serve_next-one.new.self.door) (g.D.Listener.accepts c.serve_next-one.new.self.door) (g.D.Listener.faults c.serve_next-one.new.self.door) in
    let so_far = c.accepts.invariant in
    Works-fit c.accepts._made 1 old middle new before between after c.accepts.ended c.serve_next-one.result (omega (arith, c.accepts-test.true, c.ranges.connections.fits)) so_far.1 so_far.2 c.serve_next-one.ensures.works

pub accepts-preserved : goal.accepts-preserved
accepts-preserved g c =
    let old : Standing = record { stands = g.K.Desk.stands c.args.desk.now; spare = g.K.Spare.spare c.args.desk.now } in
    let before : Station = station (g.C.Clock.told c.args.self.now.clock) (g.I.Draws.told c.args.self.now.draws) (g.G.Gate.told c.args.self.now.gate) (g.D.Listener.given c.args.self.now.door) (g.D.Listener.taken c.args.self.now.door) (g.D.Listener.out c.args.self.now.door) (g.D.Listener.accepts c.args.self.now.door) (g.D.Listener.faults c.args.self.now.door) in
    let middle : Standing = record { stands = g.K.Desk.stands c.accepts.desk; spare = g.K.Spare.spare c.accepts.desk } in
    let between : Station = station (g.C.Clock.told c.accepts.self.clock) (g.I.Draws.told c.accepts.self.draws) (g.G.Gate.told c.accepts.self.gate) (g.D.Listener.given c.accepts.self.door) (g.D.Listener.taken c.accepts.self.door) (g.D.Listener.out c.accepts.self.door) (g.D.Listener.accepts c.accepts.self.door) (g.D.Listener.faults c.accepts.self.door) in
    let new : Standing = record { stands = g.K.Desk.stands c.serve_next-one.new.desk; spare = g.K.Spare.spare c.serve_next-one.new.desk } in
    let after : Station = station (g.C.Clock.told c.serve_next-one.new.self.clock) (g.I.Draws.told c.serve_next-one.new.self.draws) (g.G.Gate.told c.serve_next-one.new.self.gate) (g.D.Listener.given c.serve_next-one.new.self.door) (g.D.Listener.taken c.serve_next-one.new.self.door) (g.D.Listener.out c.serve_next-one.new.self.door) (g.D.Listener.accepts c.serve_next-one.new.self.door) (g.D.Listener.faults c.serve_next-one.new.self.door) in
    let so_far = c.accepts.invariant in (
      c.serve_next-one.ensures.home ∙ so_far.0,
      so_far.1,
      subst (λ (e : Ended). Works (c.accepts._made + 1) old new before after e) (sym c.plus-ended.ensures) (Works-then c.accepts._made 1 old middle new before between after c.accepts.ended c.serve_next-one.result so_far.2 c.serve_next-one.ensures.works),
    )

pub returns-clause-home : goal.returns-clause-home
returns-clause-home g c = c.accepts.invariant.0

pub returns-clause-works : goal.returns-clause-works
returns-clause-works g c =
    let old : Standing = record { stands = g.K.Desk.stands c.args.desk.now; spare = g.K.Spare.spare c.args.desk.now } in
    let before : Station = station (g.C.Clock.told c.args.self.now.clock) (g.I.Draws.told c.args.self.now.draws) (g.G.Gate.told c.args.self.now.gate) (g.D.Listener.given c.args.self.now.door) (g.D.Listener.taken c.args.self.now.door) (g.D.Listener.out c.args.self.now.door) (g.D.Listener.accepts c.args.self.now.door) (g.D.Listener.faults c.args.self.now.door) in
    let middle : Standing = record { stands = g.K.Desk.stands c.accepts.desk; spare = g.K.Spare.spare c.accepts.desk } in
    let between : Station = station (g.C.Clock.told c.accepts.self.clock) (g.I.Draws.told c.accepts.self.draws) (g.G.Gate.told c.accepts.self.gate) (g.D.Listener.given c.accepts.self.door) (g.D.Listener.taken c.accepts.self.door) (g.D.Listener.out c.accepts.self.door) (g.D.Listener.accepts c.accepts.self.door) (g.D.Listener.faults c.accepts.self.door) in
    let all : c.accepts._made ≡ c.args.connections = omega (arith, c.accepts-test.false) in
    subst (λ (n : ℕ). Works n old middle before between c.accepts.ended) all c.accepts.invariant.2
