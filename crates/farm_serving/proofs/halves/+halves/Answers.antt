-- Rows of workers, and their halves.
use Rattle.std.proofs.Common.{◌+◌, ◌*◌, ◌≤◌, ◌++◌, length, map, sym, subst, arith}
use Rattle.shared_desk.specs.Standing.{Standing}
use Rattle.farm_machine.specs.Entry.{Entry}
use Rattle.farm_machine.specs.State.{State}
use Rattle.farm_serving.specs.Serving.{ServesLegal}
use Rattle.farm_serving.specs.declared.ended.Ended.{Ended}
use Rattle.farm_serving.proofs.ServingLemmas.{room_for_one, room_for_both, room_for_halves, ServesLegal-split, ServesLegal-desk, ServesLegal-rows_fit, ServesLegal-joined}
use Rattle.farm_serving.proofs.halves.+halves.Goals as goal

pub serve_all-serve_one-requires-clause-left : goal.serve_all-serve_one-requires-clause-left
serve_all-serve_one-requires-clause-left g t c =
    room_for_one (length c.args.workers.now) (c.args.connections * 1000) (g.P.Share.standing c.args.share.now).left c.requires.some c.requires.left

pub serve_all-serve_halves-requires-clause-left : goal.serve_all-serve_halves-requires-clause-left
serve_all-serve_halves-requires-clause-left g t c = λ lives within.
    room_for_halves (length c.args.workers.now) (length c.split_at_mut-low.result.0.now) (length c.split_at_mut-low.result.1.now) _ (c.args.connections * 1000) (g.P.Share.standing c.args.share.now).left c.requires.left c.split_at_mut-low.ensures.front_len c.split_at_mut-low.ensures.back_len

pub serve_all-returns : goal.serve_all-returns
serve_all-returns g t c =
    ServesLegal-split c.args.connections (g.P.Share.standing c.args.share.now) (g.P.Share.standing c.serve_halves.new.share) g.W.Serve.station c.args.workers.now c.split_at_mut-low.result.0.now c.split_at_mut-low.result.1.now c.serve_halves.new.low c.serve_halves.new.high c.serve_halves.result c.split_at_mut-low.ensures.value c.serve_halves.ensures

pub serve_halves-overflow_mul-asks : goal.serve_halves-overflow_mul-asks
serve_halves-overflow_mul-asks g t c =
    let one = room_for_one (length c.args.low.now + length c.args.high.now) (c.args.connections * 1000) (g.P.Share.standing c.args.share.now).left (omega (arith, c.requires.low)) c.requires.left in
    omega (arith, one, c.room-most.ensures)

pub serve_halves-overflow_mul-asks-2 : goal.serve_halves-overflow_mul-asks-2
serve_halves-overflow_mul-asks-2 g t c =
    let parts = room_for_both (length c.args.low.now) (length c.args.high.now) (c.args.connections * 1000) (g.P.Share.standing c.args.share.now).left c.requires.left in
    omega (arith, parts.0, c.room-most.ensures)

pub serve_halves-cut-other-requires : goal.serve_halves-cut-other-requires
serve_halves-cut-other-requires g t c =
    (room_for_both (length c.args.low.now) (length c.args.high.now) (c.args.connections * 1000) (g.P.Share.standing c.args.share.now).left c.requires.left).0

pub serve_halves-serve_both-requires-clause-left : goal.serve_halves-serve_both-requires-clause-left
serve_halves-serve_both-requires-clause-left g t c = λ lives within.
    subst (λ (s : Standing State Entry). length c.args.low.now * (c.args.connections * 1000) ≤ s.left) (sym c.cut-other.ensures.old) (room_for_both (length c.args.low.now) (length c.args.high.now) (c.args.connections * 1000) (g.P.Share.standing c.args.share.now).left c.requires.left).1

pub serve_halves-serve_both-requires-clause-other : goal.serve_halves-serve_both-requires-clause-other
serve_halves-serve_both-requires-clause-other g t c = λ lives within.
    subst (λ (s : Standing State Entry). length c.args.high.now * (c.args.connections * 1000) ≤ s.left) (sym c.cut-other.ensures.new) (omega arith)

pub serve_halves-merge-requires : goal.serve_halves-merge-requires
serve_halves-merge-requires g t c =
    let f = g.W.Serve.station in
    let at = g.P.Share.standing in
    ServesLegal-desk c.args.connections (length c.args.high.now * (c.args.connections * 1000)) (at c.args.share.now) (at c.cut-other.new.self) (at c.cut-other.result) (at c.serve_both.new.share) (at c.serve_both.new.other) (map f c.args.low.now) (map f c.serve_both.new.low) (map f c.args.high.now) (map f c.serve_both.new.high) c.serve_both.result.0 c.serve_both.result.1 c.cut-other.ensures.old c.cut-other.ensures.new c.serve_both.ensures.low c.serve_both.ensures.high

pub serve_halves-plus-requires : goal.serve_halves-plus-requires
serve_halves-plus-requires g t c =
    let f = g.W.Serve.station in
    let at = g.P.Share.standing in
    let parts = room_for_both (length c.args.low.now) (length c.args.high.now) (c.args.connections * 1000) (g.P.Share.standing c.args.share.now).left c.requires.left in
    ServesLegal-rows_fit f c.args.low.now c.serve_both.new.low c.args.high.now c.serve_both.new.high c.args.connections (length c.args.high.now * (c.args.connections * 1000)) (at c.args.share.now) (at c.cut-other.new.self) (at c.cut-other.result) (at c.serve_both.new.share) (at c.serve_both.new.other) c.serve_both.result.0 c.serve_both.result.1 c.cut-other.ensures.old c.cut-other.ensures.new c.requires.left (omega (arith, c.room-most.ensures)) parts.0 c.serve_both.ensures.low c.serve_both.ensures.high

pub serve_halves-returns : goal.serve_halves-returns
serve_halves-returns g t c =
    let f = g.W.Serve.station in
    let at = g.P.Share.standing in
    let parts = room_for_both (length c.args.low.now) (length c.args.high.now) (c.args.connections * 1000) (g.P.Share.standing c.args.share.now).left c.requires.left in
    subst (λ (e : Ended). ServesLegal c.args.connections (at c.args.share.now) (at c.merge.new.self) (map f c.args.low.now ++ map f c.args.high.now) (map f c.serve_both.new.low ++ map f c.serve_both.new.high) e) (sym c.plus.ensures) (ServesLegal-joined c.args.connections (length c.args.high.now * (c.args.connections * 1000)) (at c.args.share.now) (at c.cut-other.new.self) (at c.cut-other.result) (at c.serve_both.new.share) (at c.serve_both.new.other) (at c.merge.new.self) (map f c.args.low.now) (map f c.serve_both.new.low) (map f c.args.high.now) (map f c.serve_both.new.high) c.serve_both.result.0 c.serve_both.result.1 c.cut-other.ensures.old c.cut-other.ensures.new parts.0 c.merge.ensures.joined c.merge.ensures.legal c.serve_both.ensures.low c.serve_both.ensures.high)
