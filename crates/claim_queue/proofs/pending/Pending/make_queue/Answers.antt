use Rattle.std.proofs.Common.{◌≡◌, ◌<◌, ℕ, List, ◌++◌, [], ◌∷◌, Some, ap, sym, ◌∙◌, false, subst, length, rules}
use Rattle.std.specs.BTreeMap.{get_by_text}
use Rattle.std.specs.Str.{bytes_eq}
use Rattle.std.proofs.lemmas.Result.{err_from_is_err_and}
use Rattle.claim_queue.specs.declared.queues.Queue.{Queue}
use Rattle.claim_queue.specs.Held.{up_to}
use Rattle.claim_queue.specs.Waits.{Waits}
use Rattle.claim_queue.specs.Places.{name_at}
use Rattle.claim_queue.specs.Named.{HavePlaces}
use Rattle.claim_queue.proofs.PlaceLemmas.{stays-shown, new-shown}
use Rattle.claim_queue.proofs.WaitRoom.{AreWell, well-stays, well-new}
use Rattle.claim_queue.proofs.NamedLemmas.{places-behind, places-same}
use Rattle.claim_queue.proofs.pending.Pending.make_queue.Goals as goal

pub note_new-requires-clause-places : goal.note_new-requires-clause-places
note_new-requires-clause-places c = subst (λ (k : List Queue). HavePlaces k c.self.inside.names) (sym c.deref.ensures.value) c.self.invariant.4

pub note_new-requires-clause-none : goal.note_new-requires-clause-none
note_new-requires-clause-none c =
    let same : c.deref.result.now ≡ c.args.self.now.queues = c.deref.ensures.value ∙ ap (λ (w : Waits). w.queues) c.self.view_is in
    subst (λ (k : List Queue). (place : ℕ) → place < length k → bytes_eq (name_at place k) c.args.name.now ≡ false) (sym same) c.requires

pub make_heap-requires : goal.make_heap-requires
make_heap-requires c = c.self.invariant.0

-- the place was not kept
pub invariant_of-self : goal.invariant_of-self
invariant_of-self c =
    let named = subst (λ (k : List Queue). HavePlaces k c.note_new.new.names) c.deref.ensures.value c.note_new.ensures.places in
    (c.self.invariant.0, c.self.invariant.1, c.self.invariant.2, c.self.invariant.3, named)

-- the place is kept, and there was no memory for the queue
pub invariant_of-self-in_err-heap : goal.invariant_of-self-in_err-heap
invariant_of-self-in_err-heap c =
    let p = c.self.inside in
    let new = c.make_heap.new in
    let told = c.make_heap.ensures in
    let rows : new.rows.items ≡ p.rows.items = search rules in
    let named = subst (λ (k : List Queue). HavePlaces k c.note_new.new.names) c.deref.ensures.value c.note_new.ensures.places in
    let well : AreWell p.queues.items p.rows.items p.heaps.items p.places.items = (c.self.invariant.0, c.self.invariant.1, c.self.invariant.2, c.self.invariant.3) in
    let kept = well-stays p.queues.items p.rows.items p.heaps.items p.places.items new.places.items well told.places new.queues.items new.rows.items new.heaps.items told.same.0 rows told.same.1 in
    (kept.0, kept.1, kept.2, kept.3, places-same c.note_new.new.names p.queues.items new.queues.items named told.same.0)

pub returns-in_err-heap : goal.returns-in_err-heap
returns-in_err-heap c =
    let p = c.self.inside in
    let new = c.make_heap.new in
    let rows : new.rows.items ≡ p.rows.items = search rules in
    let e = err_from_is_err_and c.from_residual-in_err-heap.result c.from_residual-in_err-heap.ensures.1 in
    rw e.1 (stays-shown p.queues.items new.queues.items p.rows.items new.rows.items c.args.self.now c.make_heap.ensures.same.0 rows c.self.view_is)

pub invariant_of-self-2 : goal.invariant_of-self-2
invariant_of-self-2 c =
    let p = c.self.inside in
    let new = c.make_heap.new in
    let told = c.make_heap.ensures in
    let heap = c.in_ok-heap.heap in
    let grown : new.rows.items ≡ up_to c.args.below p.rows.items = search rules in
    let made : Queue = record { name = c.args.name.now; room = c.args.room } in
    let pushed : c.push.new.self.items ≡ p.queues.items ++ made ∷ [] = search rules in
    let heaped : c.push-2.new.self.items ≡ p.heaps.items ++ heap ∷ [] = search rules in
    let fresh = subst (λ (w : Waits). (place : ℕ) → place < length w.queues → bytes_eq (name_at place w.queues) c.args.name.now ≡ false) (sym c.self.view_is) c.requires in
    let named = subst (λ (k : List Queue). HavePlaces k c.note_new.new.names) c.deref.ensures.value c.note_new.ensures.places in
    let noted = subst (λ (k : List Queue). get_by_text c.note_new.new.names c.args.name.now ≡ Some (length k)) c.deref.ensures.value c.in_ok-note_new.ensures.noted in
    let well : AreWell p.queues.items p.rows.items p.heaps.items p.places.items = (c.self.invariant.0, c.self.invariant.1, c.self.invariant.2, c.self.invariant.3) in
    let now = well-new p.queues.items p.rows.items p.heaps.items p.places.items new.places.items well told.places made heap c.args.below c.push.new.self.items new.rows.items c.push-2.new.self.items
    fresh pushed heaped c.in_ok-heap.ensures.heap.0 c.in_ok-heap.ensures.heap.1 grown told.small c.in_ok-heap.ensures.below in
    (now.0, now.1, now.2, now.3, places-behind c.note_new.new.names p.queues.items c.push.new.self.items made named noted pushed)

pub returns : goal.returns
returns c =
    let p = c.self.inside in
    let grown : c.make_heap.new.rows.items ≡ up_to c.args.below p.rows.items = search rules in
    let made : Queue = record { name = c.args.name.now; room = c.args.room } in
    let pushed : c.push.new.self.items ≡ p.queues.items ++ made ∷ [] = search rules in
    new-shown c.args.name.now c.args.room c.args.below p.queues.items c.push.new.self.items p.rows.items c.make_heap.new.rows.items c.args.self.now c.self.invariant.1 (ap (λ (w : Waits). w.queues) c.self.view_is)
    (ap (λ (w : Waits). w.rows) c.self.view_is) pushed grown
