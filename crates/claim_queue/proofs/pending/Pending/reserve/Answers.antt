use Rattle.std.proofs.Common.{◌≡◌, ◌+◌, ◌<◌, ◌++◌, [], ◌∷◌, ℕ, List, ap, sym, ◌∙◌, refl, false, map, length, subst, rules, arith}
use Rattle.std.specs.Str.{bytes_eq}
use Rattle.claim_queue.specs.Named.{HavePlaces}
use Rattle.claim_queue.specs.declared.queues.Queue.{Queue}
use Rattle.claim_queue.specs.Held.{up_to}
use Rattle.claim_queue.specs.Waits.{Waits, count_in, raised, roomier}
use Rattle.claim_queue.specs.Places.{name_at}
use Rattle.claim_queue.proofs.PlaceLemmas.{waits_of, known-roomier, new-roomier}
use Rattle.claim_queue.proofs.QueueLemmas.{knows-here, knows-none}
use Rattle.claim_queue.proofs.WaitMoves.{count-some, count-none}
use Rattle.claim_queue.proofs.WaitRoom.{told-result}
use Rattle.claim_queue.proofs.pending.Pending.reserve.Goals as goal

pub place_of-requires : goal.place_of-requires
place_of-requires c = subst (λ (k : List Queue). HavePlaces k c.self.inside.names) (sym c.deref.ensures.value) c.self.invariant.4

pub index-requires : goal.index-requires
index-requires c =
    let place = rw c.in-Some.is at c.place_of.ensures.place in
    let here : c.in-Some.queue < length c.self.inside.queues.items = rw (← c.deref.ensures.value) place.0 in
    let long = c.self.invariant.3.long in
    omega arith

pub overflow_add-room : goal.overflow_add-room
overflow_add-room c =
    let p = c.self.inside in
    let place = rw c.in-Some.is at c.place_of.ensures.place in
    let here : c.in-Some.queue < length p.queues.items = rw (← c.deref.ensures.value) place.0 in
    let named : name_at c.in-Some.queue p.queues.items ≡ c.args.name.now = ap (name_at c.in-Some.queue) (sym c.deref.ensures.value) ∙ place.1 in
    let counted = count-some p.queues.items p.rows.items p.heaps.items p.places.items c.self.invariant.1 c.self.invariant.2 c.self.invariant.3 c.in-Some.queue c.args.name.now c.args.self.now c.index.result.now
    (ap (λ (w : Waits). w.rows) c.self.view_is) here named c.index.ensures in
    let short = counted.1 in
    let small = c.self.invariant.0 in
    let long : c.len.result ≡ length c.index.result.now.items = search rules in
    omega arith

pub returns-in-Some : goal.returns-in-Some
returns-in-Some c =
    let p = c.self.inside in
    let name = c.args.name.now in
    let now = c.args.self.now in
    let room = c.len.result + c.args.more in
    let place = rw c.in-Some.is at c.place_of.ensures.place in
    let here : c.in-Some.queue < length p.queues.items = rw (← c.deref.ensures.value) place.0 in
    let named : name_at c.in-Some.queue p.queues.items ≡ name = ap (name_at c.in-Some.queue) (sym c.deref.ensures.value) ∙ place.1 in
    let same : p.queues.items ≡ now.queues = ap (λ (w : Waits). w.queues) c.self.view_is in
    let counted = count-some p.queues.items p.rows.items p.heaps.items p.places.items c.self.invariant.1 c.self.invariant.2 c.self.invariant.3 c.in-Some.queue name now c.index.result.now
    (ap (λ (w : Waits). w.rows) c.self.view_is) here named c.index.ensures in
    let long : c.len.result ≡ length c.index.result.now.items = search rules in
    let known = knows-here now.queues c.in-Some.queue name (subst (λ (k : List Queue). c.in-Some.queue < length k) same here) (ap (name_at c.in-Some.queue) (sym same) ∙ named) in
    let made : List ℕ → Waits = λ n. waits_of (map (raised n room) now.queues) (up_to c.args.below now.rows) in
    told-result c.make_wider.result c.make_wider.new.self (made (name_at c.in-Some.queue now.queues)) now (roomier name c.args.more c.args.below now) now c.make_wider.ensures
    (ap made (ap (name_at c.in-Some.queue) (sym same) ∙ named) ∙ known-roomier name c.args.more c.args.below room now (ap (λ n. n + c.args.more) (long ∙ counted.0)) known)
    refl

pub returns-in-None : goal.returns-in-None
returns-in-None c =
    let p = c.self.inside in
    let name = c.args.name.now in
    let now = c.args.self.now in
    let made : Queue = record { name = name; room = c.args.more } in
    let none = rw (c.in-None.is, c.deref.ensures.value) at c.place_of.ensures.none in
    let counted : count_in name now ≡ 0 = count-none p.queues.items p.rows.items p.heaps.items p.places.items c.self.invariant.1 c.self.invariant.2 c.self.invariant.3 name now (ap (λ (w : Waits). w.rows) c.self.view_is) none in
    let same : p.queues.items ≡ now.queues = ap (λ (w : Waits). w.queues) c.self.view_is in
    let there = subst (λ (k : List Queue). (place : ℕ) → place < length k → bytes_eq (name_at place k) name ≡ false) same none in
    told-result c.make_queue.result c.make_queue.new.self (waits_of (now.queues ++ made ∷ []) (up_to c.args.below now.rows)) now (roomier name c.args.more c.args.below now) now c.make_queue.ensures
    (new-roomier name c.args.more c.args.below c.args.more now (omega arith) (knows-none now.queues name there))
    refl

pub make_wider-requires : goal.make_wider-requires
make_wider-requires c =
    let place = rw c.in-Some.is at c.place_of.ensures.place in
    let same : c.deref.result.now ≡ c.args.self.now.queues = c.deref.ensures.value ∙ ap (λ (w : Waits). w.queues) c.self.view_is in
    subst (λ (k : List Queue). c.in-Some.queue < length k) same place.0

pub make_queue-requires : goal.make_queue-requires
make_queue-requires c =
    let same : c.deref.result.now ≡ c.args.self.now.queues = c.deref.ensures.value ∙ ap (λ (w : Waits). w.queues) c.self.view_is in
    rw (c.in-None.is, same) at c.place_of.ensures.none
