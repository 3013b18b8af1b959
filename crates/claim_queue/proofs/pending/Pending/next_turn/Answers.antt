use Rattle.std.proofs.Common.{◌<◌, ap, sym, subst, length, List, arith}
use Rattle.claim_queue.specs.declared.turns.Turn.{Turn}
use Rattle.claim_queue.specs.Waits.{Waits}
use Rattle.claim_queue.specs.Heaps.{IsOrdered}
use Rattle.claim_queue.specs.Behind.{IsFirstUnder, AreGivenUnder}
use Rattle.claim_queue.proofs.NextLemmas.{next-ordered, next-some, next-few}
use Rattle.claim_queue.proofs.pending.Pending.next_turn.Goals as goal

pub index-requires : goal.index-requires
index-requires g c =
    let here = ap (λ (w : Waits). length w.queues) c.self.view_is in
    let long = c.self.invariant.3.long in
    omega arith

pub first_under-requires : goal.first_under-requires
first_under-requires g c =
    let p = c.self.inside in
    let here : c.args.queue < length p.queues.items = let e = ap (λ (w : Waits). length w.queues) c.self.view_is in omega arith in
    subst (λ (h : List Turn). IsOrdered h) (sym c.deref.ensures.value)
    (next-ordered p.queues.items p.rows.items p.heaps.items p.places.items c.self.invariant.1 c.self.invariant.2 c.self.invariant.3 c.args.queue here c.index.result.now c.index.ensures)

pub returns-clause-next : goal.returns-clause-next
returns-clause-next g c =
    let p = c.self.inside in
    let here : c.args.queue < length p.queues.items = let e = ap (λ (w : Waits). length w.queues) c.self.view_is in omega arith in
    next-some p.queues.items p.rows.items p.heaps.items p.places.items c.self.invariant.1 c.self.invariant.2 c.self.invariant.3 c.args.queue here c.args.self.now c.index.result.now c.args.last c.first_under.result
    (ap (λ (w : Waits). w.queues) c.self.view_is) (ap (λ (w : Waits). w.rows) c.self.view_is) c.index.ensures
    (subst (λ (h : List Turn). IsFirstUnder 0 h c.args.last c.first_under.result) c.deref.ensures.value c.first_under.ensures.first)

pub returns-clause-steps : goal.returns-clause-steps
returns-clause-steps g c =
    let p = c.self.inside in
    let here : c.args.queue < length p.queues.items = let e = ap (λ (w : Waits). length w.queues) c.self.view_is in omega arith in
    let steps = c.first_under.ensures.steps in
    next-few p.queues.items p.rows.items p.heaps.items p.places.items c.self.invariant.1 c.self.invariant.2 c.self.invariant.3 c.args.queue here c.args.self.now c.index.result.now c.args.last steps.0
    c.args.steps.now c.first_under.new.steps (ap (λ (w : Waits). w.queues) c.self.view_is) (ap (λ (w : Waits). w.rows) c.self.view_is) c.index.ensures
    (subst (λ (h : List Turn). AreGivenUnder 0 h c.args.last steps.0) c.deref.ensures.value steps.1) steps.2
