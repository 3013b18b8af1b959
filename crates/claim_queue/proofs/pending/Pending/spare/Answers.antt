use Rattle.std.proofs.Common.{◌≡◌, ◌<◌, ◌-◌, ap, sym, ◌∙◌, length, rules, arith, List, subst}
use Rattle.claim_queue.specs.declared.queues.Queue.{Queue}
use Rattle.claim_queue.specs.Named.{HavePlaces}
use Rattle.claim_queue.specs.Waits.{Waits, room_in}
use Rattle.claim_queue.specs.Places.{name_at}
use Rattle.claim_queue.specs.WaitHeaps.{room_at}
use Rattle.claim_queue.proofs.PlaceLemmas.{spare-none}
use Rattle.claim_queue.proofs.QueueLemmas.{room-here}
use Rattle.claim_queue.proofs.WaitMoves.{spare-some}
use Rattle.claim_queue.proofs.pending.Pending.spare.Goals as goal

pub place_of-requires : goal.place_of-requires
place_of-requires c = subst (λ (k : List Queue). HavePlaces k c.self.inside.names) (sym c.deref.ensures.value) c.self.invariant.4

pub index-requires : goal.index-requires
index-requires c =
    let place = rw c.in-Some.is at c.place_of.ensures.place in
    let here : c.in-Some.queue < length c.self.inside.queues.items = rw (← c.deref.ensures.value) place.0 in
    let long = c.self.invariant.3.long in
    omega arith

pub returns-in-Some : goal.returns-in-Some
returns-in-Some c =
    let p = c.self.inside in
    let place = rw c.in-Some.is at c.place_of.ensures.place in
    let here : c.in-Some.queue < length p.queues.items = rw (← c.deref.ensures.value) place.0 in
    let named : name_at c.in-Some.queue p.queues.items ≡ c.args.name.now = ap (name_at c.in-Some.queue) (sym c.deref.ensures.value) ∙ place.1 in
    let room : c.room_at.result ≡ room_in c.args.name.now p.queues.items =
    c.room_at.ensures ∙ (ap (room_at c.in-Some.queue) c.deref-in-Some.ensures.value ∙ sym (room-here p.queues.items c.in-Some.queue c.args.name.now c.self.invariant.3.apart here named)) in
    let count : c.len.result ≡ length c.index.result.now.items = search rules in
    c.saturating_sub.ensures ∙ (ap (λ n. n - c.len.result) room ∙ (ap (λ n. room_in c.args.name.now p.queues.items - n) count
    ∙ spare-some p.queues.items p.rows.items p.heaps.items p.places.items c.self.invariant.1 c.self.invariant.2 c.self.invariant.3 c.in-Some.queue c.args.name.now c.args.self.now c.index.result.now
    (ap (λ (w : Waits). w.queues) c.self.view_is) (ap (λ (w : Waits). w.rows) c.self.view_is) here named c.index.ensures))

pub returns-in-None : goal.returns-in-None
returns-in-None c =
    let none = rw (c.in-None.is, c.deref.ensures.value) at c.place_of.ensures.none in
    spare-none c.args.name.now c.self.inside.queues.items c.args.self.now (ap (λ (w : Waits). w.queues) c.self.view_is) none
