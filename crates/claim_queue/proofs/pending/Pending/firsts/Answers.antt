use Rattle.std.proofs.Common.{ap, List, sym, subst}
use Rattle.claim_queue.specs.declared.queues.Queue.{Queue}
use Rattle.claim_queue.specs.Named.{HavePlaces}
use Rattle.claim_queue.specs.Waits.{Waits}
use Rattle.claim_queue.proofs.NextLemmas.{place-is}
use Rattle.claim_queue.proofs.pending.Pending.firsts.Goals as goal

pub place_of-requires : goal.place_of-requires
place_of-requires c = subst (λ (k : List Queue). HavePlaces k c.self.inside.names) (sym c.deref.ensures.value) c.self.invariant.4

pub new-requires : goal.new-requires
new-requires c =
    let p = c.self.inside in
    let some = rw c.deref.ensures.value at c.place_of.ensures.place in
    let none = rw c.deref.ensures.value at c.place_of.ensures.none in
    place-is p.queues.items p.rows.items p.heaps.items p.places.items c.self.invariant.1 c.self.invariant.2 c.place_of.result c.args.name.now c.args.self.now
    (ap (λ (w : Waits). w.queues) c.self.view_is) (ap (λ (w : Waits). w.rows) c.self.view_is) some none
