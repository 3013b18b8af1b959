use Rattle.std.proofs.Common.{◌≡◌, ◌<◌, ap, sym, ◌∙◌, length, rules, List, subst}
use Rattle.claim_queue.specs.declared.queues.Queue.{Queue}
use Rattle.claim_queue.specs.Named.{HavePlaces}
use Rattle.claim_queue.specs.Waits.{Waits}
use Rattle.claim_queue.specs.Places.{name_at}
use Rattle.claim_queue.proofs.WaitMoves.{count-some, count-none}
use Rattle.claim_queue.proofs.pending.Pending.count.Goals as goal

pub place_of-requires : goal.place_of-requires
place_of-requires c = subst (λ (k : List Queue). HavePlaces k c.self.inside.names) (sym c.deref.ensures.value) c.self.invariant.4

pub returns-in-Some : goal.returns-in-Some
returns-in-Some c =
    let p = c.self.inside in
    let place = rw c.in-Some.is at c.place_of.ensures.place in
    let here : c.in-Some.queue < length p.queues.items = rw (← c.deref.ensures.value) place.0 in
    let named : name_at c.in-Some.queue p.queues.items ≡ c.args.name.now = ap (name_at c.in-Some.queue) (sym c.deref.ensures.value) ∙ place.1 in
    let count : c.len.result ≡ length c.index.result.now.items = search rules in
    count ∙ (count-some p.queues.items p.rows.items p.heaps.items p.places.items c.self.invariant.1 c.self.invariant.2 c.self.invariant.3 c.in-Some.queue c.args.name.now c.args.self.now c.index.result.now
    (ap (λ (w : Waits). w.rows) c.self.view_is) here named c.index.ensures).0

pub returns-in-None : goal.returns-in-None
returns-in-None c =
    let p = c.self.inside in
    let none = rw (c.in-None.is, c.deref.ensures.value) at c.place_of.ensures.none in
    sym (count-none p.queues.items p.rows.items p.heaps.items p.places.items c.self.invariant.1 c.self.invariant.2 c.self.invariant.3 c.args.name.now c.args.self.now (ap (λ (w : Waits). w.rows) c.self.view_is) none)
