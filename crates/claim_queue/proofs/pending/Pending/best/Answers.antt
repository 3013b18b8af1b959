use Rattle.std.proofs.Common.{◌≡◌, ◌<◌, ap, sym, ◌∙◌, length, List, subst}
use Rattle.claim_queue.specs.declared.queues.Queue.{Queue}
use Rattle.claim_queue.specs.Named.{HavePlaces}
use Rattle.claim_queue.specs.Waits.{Waits}
use Rattle.claim_queue.specs.Places.{name_at}
use Rattle.claim_queue.specs.WaitHeaps.{top_row}
use Rattle.claim_queue.proofs.WaitMoves.{best-some, best-no-queue}
use Rattle.claim_queue.proofs.pending.Pending.best.Goals as goal

pub place_of-requires : goal.place_of-requires
place_of-requires g c = subst (λ (k : List Queue). HavePlaces k c.self.inside.names) (sym c.deref.ensures.value) c.self.invariant.4

pub returns-in-Some-clause-row : goal.returns-in-Some-clause-row
returns-in-Some-clause-row g c =
    let p = c.self.inside in
    let place = rw c.in-Some.is at c.place_of.ensures.place in
    let here : c.in-Some.queue < length p.queues.items = rw (← c.deref.ensures.value) place.0 in
    let named : name_at c.in-Some.queue p.queues.items ≡ c.args.name.now = ap (name_at c.in-Some.queue) (sym c.deref.ensures.value) ∙ place.1 in
    c.top_row.ensures ∙ (ap top_row c.deref-in-Some.ensures.value
    ∙ best-some p.queues.items p.rows.items p.heaps.items p.places.items c.self.invariant.1 c.self.invariant.2 c.self.invariant.3 c.in-Some.queue c.args.name.now c.args.self.now c.index.result.now
    (ap (λ (w : Waits). w.queues) c.self.view_is) (ap (λ (w : Waits). w.rows) c.self.view_is) here named c.index.ensures)

pub returns-in-None-clause-row : goal.returns-in-None-clause-row
returns-in-None-clause-row g c =
    let p = c.self.inside in
    let none = rw (c.in-None.is, c.deref.ensures.value) at c.place_of.ensures.none in
    best-no-queue p.queues.items p.rows.items p.heaps.items p.places.items c.self.invariant.1 c.self.invariant.2 c.self.invariant.3 c.args.name.now c.args.self.now
    (ap (λ (w : Waits). w.queues) c.self.view_is) (ap (λ (w : Waits). w.rows) c.self.view_is) none
