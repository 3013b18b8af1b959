use Rattle.std.proofs.Common.{◌≡◌, ◌<◌, ℕ, List, map, ap, sym, refl, subst, length, rules, arith}
use Rattle.std.proofs.lemmas.Result.{err_from_is_err_and}
use Rattle.claim_queue.specs.Held.{up_to}
use Rattle.claim_queue.specs.Waits.{Waits, raised}
use Rattle.claim_queue.specs.Places.{name_at}
use Rattle.claim_queue.proofs.PlaceLemmas.{stays-shown, wider-shown}
use Rattle.claim_queue.proofs.WaitRoom.{AreWell, well-kept, well-wider}
use Rattle.claim_queue.proofs.NamedLemmas.{places-raised}
use Rattle.claim_queue.proofs.pending.Pending.make_wider.Goals as goal

pub index_mut-requires : goal.index_mut-requires
index_mut-requires c =
    let same : length c.args.self.now.queues ≡ length c.self.inside.queues.items = ap (λ (w : Waits). length w.queues) (sym c.self.view_is) in
    let long = c.self.invariant.3.long in
    let place = c.requires in
    omega arith

pub make_room-requires : goal.make_room-requires
make_room-requires c = c.self.invariant.0

pub raise-requires-clause-place : goal.raise-requires-clause-place
raise-requires-clause-place c =
    let same : length c.args.self.now.queues ≡ length c.self.inside.queues.items = ap (λ (w : Waits). length w.queues) (sym c.self.view_is) in
    let place = c.requires in
    omega arith

pub raise-requires-clause-apart : goal.raise-requires-clause-apart
raise-requires-clause-apart c = c.self.invariant.3.apart

pub invariant_of-self : goal.invariant_of-self
invariant_of-self c =
    let p = c.self.inside in
    let same : length c.args.self.now.queues ≡ length p.queues.items = ap (λ (w : Waits). length w.queues) (sym c.self.view_is) in
    let place = c.requires in
    let within : c.args.queue < length p.queues.items = omega arith in
    let rows : c.make_room.new.rows.items ≡ p.rows.items = search rules in
    let well : AreWell p.queues.items p.rows.items p.heaps.items p.places.items = (c.self.invariant.0, c.self.invariant.1, c.self.invariant.2, c.self.invariant.3) in
    let kept = well-kept p.queues.items p.rows.items p.heaps.items p.places.items c.make_room.new.places.items well c.make_room.ensures.places c.args.queue c.index_mut.result.now c.make_room.new.heap within c.index_mut.ensures.value
    c.make_room.ensures.turns c.make_room.ensures.memory c.make_room.new.rows.items rows in
    (kept.0, kept.1, kept.2, kept.3, c.self.invariant.4)

pub returns-in_err-make_room : goal.returns-in_err-make_room
returns-in_err-make_room c =
    let p = c.self.inside in
    let rows : c.make_room.new.rows.items ≡ p.rows.items = search rules in
    let e = err_from_is_err_and c.from_residual.result c.from_residual.ensures.1 in
    rw e.1 (stays-shown p.queues.items p.queues.items p.rows.items c.make_room.new.rows.items c.args.self.now refl rows c.self.view_is)

pub invariant_of-self-2 : goal.invariant_of-self-2
invariant_of-self-2 c =
    let p = c.self.inside in
    let same : length c.args.self.now.queues ≡ length p.queues.items = ap (λ (w : Waits). length w.queues) (sym c.self.view_is) in
    let place = c.requires in
    let within : c.args.queue < length p.queues.items = omega arith in
    let name = name_at c.args.queue p.queues.items in
    let grown : c.make_room.new.rows.items ≡ up_to c.args.below p.rows.items = search rules in
    let well : AreWell p.queues.items p.rows.items p.heaps.items p.places.items = (c.self.invariant.0, c.self.invariant.1, c.self.invariant.2, c.self.invariant.3) in
    let wider = well-wider p.queues.items p.rows.items p.heaps.items p.places.items c.make_room.new.places.items well c.make_room.ensures.places c.args.queue c.index_mut.result.now c.make_room.new.heap within c.index_mut.ensures.value
    c.make_room.ensures.turns c.make_room.ensures.memory name c.args.room c.args.below c.raise.new.queues.items c.make_room.new.rows.items refl c.raise.ensures grown c.make_room.ensures.small c.in_ok-make_room.ensures.below c.in_ok-make_room.ensures.room in
    (wider.0, wider.1, wider.2, wider.3, places-raised p.names p.queues.items c.raise.new.queues.items name c.args.room c.self.invariant.4 c.raise.ensures)

pub returns : goal.returns
returns c =
    let p = c.self.inside in
    let now = c.args.self.now in
    let grown : c.make_room.new.rows.items ≡ up_to c.args.below p.rows.items = search rules in
    let same : p.queues.items ≡ now.queues = ap (λ (w : Waits). w.queues) c.self.view_is in
    let P : List ℕ → Type 0 = λ n. c.raise.new.queues.items ≡ map (raised n c.args.room) p.queues.items in
    let raised_ : P (name_at c.args.queue now.queues) = subst P (ap (name_at c.args.queue) same) c.raise.ensures in
    wider-shown (name_at c.args.queue now.queues) c.args.room c.args.below p.queues.items c.raise.new.queues.items p.rows.items c.make_room.new.rows.items now c.self.invariant.1 same
    (ap (λ (w : Waits). w.rows) c.self.view_is) raised_ grown
