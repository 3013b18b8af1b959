use Rattle.std.proofs.Common.{◌≡◌, ◌<◌, ℕ, List, Some, ap, sym, ◌∙◌, subst, length, slice_set, arith, length-set}
use Rattle.claim_queue.specs.declared.queues.Queue.{Queue}
use Rattle.claim_queue.specs.Named.{HavePlaces}
use Rattle.claim_queue.specs.declared.entries.Entry.{Entry}
use Rattle.claim_queue.specs.Waits.{Waits}
use Rattle.claim_queue.specs.Places.{name_at, told_rows}
use Rattle.claim_queue.specs.WaitHeaps.{AreQueued}
use Rattle.claim_queue.proofs.EditLemmas.{written}
use Rattle.claim_queue.proofs.PlaceLemmas.{placed-set, told-set, told-within, not-told, no-spare, waits-same}
use Rattle.claim_queue.proofs.WaitMoves.{wait-room, wait-few, wait-kept, wait-turn-absent, wait-added, wait-memory}
use Rattle.claim_queue.proofs.pending.Pending.add.Goals as goal

pub place_of-requires : goal.place_of-requires
place_of-requires g c = subst (λ (k : List Queue). HavePlaces k c.self.inside.names) (sym c.deref.ensures.value) c.self.invariant.4

pub unreachable-requires : goal.unreachable-requires
unreachable-requires g c =
    let none = rw c.in_default.is at c.place_of.ensures.none in
    no-spare c.args.name.now c.deref.result.now c.args.self.now (ap (λ (w : Waits). w.queues) (sym c.self.view_is) ∙ sym c.deref.ensures.value) none c.requires.room

pub index_mut-requires : goal.index_mut-requires
index_mut-requires g c =
    let place = rw c.in-Some.is at c.place_of.ensures.place in
    let here : c.in-Some.queue < length c.self.inside.queues.items = rw (← c.deref.ensures.value) place.0 in
    let long = c.self.invariant.3.long in
    omega arith

pub insert-requires-clause-room : goal.insert-requires-clause-room
insert-requires-clause-room g c =
    let p = c.self.inside in
    let entry : Entry = record { queue = c.in-Some.queue; priority = c.args.priority; number = c.args.number } in
    let place = rw c.in-Some.is at c.place_of.ensures.place in
    let here : c.in-Some.queue < length p.queues.items = rw (← c.deref.ensures.value) place.0 in
    let named : name_at c.in-Some.queue p.queues.items ≡ c.args.name.now = ap (name_at c.in-Some.queue) (sym c.deref.ensures.value) ∙ place.1 in
    wait-room p.queues.items p.rows.items p.heaps.items p.places.items c.self.invariant.1 c.self.invariant.2 c.self.invariant.3 entry c.index_mut.result.now c.deref_mut.result.now here c.index_mut.ensures.value c.deref_mut.ensures.value
    c.args.name.now c.args.self.now (ap (λ (w : Waits). w.queues) c.self.view_is) (ap (λ (w : Waits). w.rows) c.self.view_is) named c.requires.room

pub insert-requires-clause-absent : goal.insert-requires-clause-absent
insert-requires-clause-absent g c =
    let p = c.self.inside in
    let entry : Entry = record { queue = c.in-Some.queue; priority = c.args.priority; number = c.args.number } in
    let place = rw c.in-Some.is at c.place_of.ensures.place in
    let here : c.in-Some.queue < length p.queues.items = rw (← c.deref.ensures.value) place.0 in
    wait-turn-absent p.queues.items p.rows.items p.heaps.items p.places.items c.self.invariant.1 c.self.invariant.2 c.self.invariant.3 entry c.index_mut.result.now c.deref_mut.result.now here c.index_mut.ensures.value c.deref_mut.ensures.value
    c.entry_turn-turn.result c.args.row c.entry_turn-turn.ensures (not-told p.queues.items p.rows.items c.args.self.now c.args.row (ap (λ (w : Waits). w.rows) c.self.view_is) c.requires.absent)

pub insert-requires-clause-kept : goal.insert-requires-clause-kept
insert-requires-clause-kept g c =
    let p = c.self.inside in
    let entry : Entry = record { queue = c.in-Some.queue; priority = c.args.priority; number = c.args.number } in
    let place = rw c.in-Some.is at c.place_of.ensures.place in
    let here : c.in-Some.queue < length p.queues.items = rw (← c.deref.ensures.value) place.0 in
    wait-kept p.queues.items p.rows.items p.heaps.items p.places.items c.self.invariant.1 c.self.invariant.2 c.self.invariant.3 entry c.index_mut.result.now c.deref_mut.result.now here c.index_mut.ensures.value c.deref_mut.ensures.value

pub index_mut-requires-2 : goal.index_mut-requires-2
index_mut-requires-2 g c =
    let within = told-within c.self.inside.queues.items c.self.inside.rows.items c.args.self.now c.args.row (ap (λ (w : Waits). w.rows) (sym c.self.view_is)) c.requires.absent in
    omega arith

pub invariant_of-self : goal.invariant_of-self
invariant_of-self g c =
    let p = c.self.inside in
    let entry : Entry = record { queue = c.in-Some.queue; priority = c.args.priority; number = c.args.number } in
    let place = rw c.in-Some.is at c.place_of.ensures.place in
    let here : c.in-Some.queue < length p.queues.items = rw (← c.deref.ensures.value) place.0 in
    let none = not-told p.queues.items p.rows.items c.args.self.now c.args.row (ap (λ (w : Waits). w.rows) c.self.view_is) c.requires.absent in
    let long : length c.insert.new.places ≡ length c.deref_mut.result.now = omega (arith, c.insert.auto.places) in
    let queued = wait-added p.queues.items p.rows.items p.heaps.items p.places.items c.self.invariant.1 c.self.invariant.2 c.self.invariant.3 entry c.index_mut.result.now c.deref_mut.result.now here c.index_mut.ensures.value c.deref_mut.ensures.value
    c.insert.new.heap c.insert.new.places c.entry_turn-turn.result c.args.row c.entry_turn-turn.ensures none c.insert.ensures.put c.insert.ensures.kept c.insert.ensures.more long in (
      omega (arith, length-set p.rows.items c.args.row (Some entry)),
      placed-set (length p.queues.items) p.rows.items c.args.row entry here c.self.invariant.1,
      subst (λ (l : List ℕ). AreQueued (slice_set p.rows.items c.args.row (Some entry)) (slice_set p.heaps.items entry.queue c.insert.new.heap) l)
          (sym (written c.insert.new.places p.places.items p.places.len (long ∙ c.deref_mut.ensures.len))) queued,
      wait-memory p.queues.items p.rows.items p.heaps.items p.places.items c.self.invariant.1 c.self.invariant.2 c.self.invariant.3 entry c.index_mut.result.now c.deref_mut.result.now here c.index_mut.ensures.value c.deref_mut.ensures.value
          c.insert.new.heap c.insert.ensures.room,
      c.self.invariant.4,
    )

pub returns-clause-rows : goal.returns-clause-rows
returns-clause-rows g c =
    let queues = c.self.inside.queues.items in
    let rows = c.self.inside.rows.items in
    let entry : Entry = record { queue = c.in-Some.queue; priority = c.args.priority; number = c.args.number } in
    let place = rw c.in-Some.is at c.place_of.ensures.place in
    let named : name_at c.in-Some.queue queues ≡ c.args.name.now = ap (name_at c.in-Some.queue) (sym c.deref.ensures.value) ∙ place.1 in
    let same : queues ≡ c.args.self.now.queues = ap (λ (w : Waits). w.queues) c.self.view_is in
    waits-same queues c.args.self.now.queues (told_rows queues (slice_set rows c.args.row (Some entry)))
    (slice_set c.args.self.now.rows c.args.row (Some (record { queue = c.args.name.now; priority = c.args.priority; number = c.args.number })))
    same (told-set queues rows c.args.self.now c.args.row entry c.args.name.now same (ap (λ (w : Waits). w.rows) c.self.view_is) named)

pub returns-clause-steps : goal.returns-clause-steps
returns-clause-steps g c =
    let p = c.self.inside in
    let entry : Entry = record { queue = c.in-Some.queue; priority = c.args.priority; number = c.args.number } in
    let place = rw c.in-Some.is at c.place_of.ensures.place in
    let here : c.in-Some.queue < length p.queues.items = rw (← c.deref.ensures.value) place.0 in
    let named : name_at c.in-Some.queue p.queues.items ≡ c.args.name.now = ap (name_at c.in-Some.queue) (sym c.deref.ensures.value) ∙ place.1 in
    wait-few p.queues.items p.rows.items p.heaps.items p.places.items c.self.invariant.1 c.self.invariant.2 c.self.invariant.3 entry c.index_mut.result.now c.deref_mut.result.now here c.index_mut.ensures.value c.deref_mut.ensures.value
    c.args.name.now c.args.self.now c.args.steps.now c.insert.new.steps (ap (λ (w : Waits). w.rows) c.self.view_is) named c.insert.ensures.steps
