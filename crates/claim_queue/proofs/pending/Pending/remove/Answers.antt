use Rattle.std.proofs.Common.{◌≡◌, ℕ, List, None, ap, sym, ◌∙◌, subst, length, slice_set, arith, length-set}
use Rattle.claim_queue.specs.Waits.{Waits}
use Rattle.claim_queue.specs.Places.{told_rows}
use Rattle.claim_queue.specs.WaitHeaps.{AreQueued}
use Rattle.claim_queue.proofs.EditLemmas.{written}
use Rattle.claim_queue.proofs.PlaceLemmas.{placed-clear, told-clear, waits-same}
use Rattle.claim_queue.proofs.QueueLemmas.{placed-held}
use Rattle.claim_queue.proofs.WaitMoves.{entry-here, entry-there, entry-within, entry-queue, wait-few, wait-kept, wait-row-held, wait-removed, wait-memory}
use Rattle.claim_queue.proofs.pending.Pending.remove.Goals as goal

pub index-requires : goal.index-requires
index-requires g c =
    let p = c.self.inside in
    let within = entry-within p.queues.items p.rows.items c.args.self.now c.args.row (ap (λ (w : Waits). w.rows) c.self.view_is) c.requires in
    omega arith

pub unreachable-requires : goal.unreachable-requires
unreachable-requires g c =
    let p = c.self.inside in
    entry-there p.queues.items p.rows.items c.args.self.now c.args.row (ap (λ (w : Waits). w.rows) c.self.view_is) c.index.result.now c.requires c.index.ensures c.in_default.is

pub index_mut-requires : goal.index_mut-requires
index_mut-requires g c =
    let p = c.self.inside in
    let told_ = ap (λ (w : Waits). w.rows) c.self.view_is in
    let held_ = entry-here p.queues.items p.rows.items c.args.self.now c.args.row told_ c.index.result.now c.in-Some.entry c.requires c.index.ensures c.in-Some.is in
    let within = placed-held (length p.queues.items) p.rows.items c.args.row c.in-Some.entry c.self.invariant.1 held_ in
    let long = c.self.invariant.3.long in
    omega arith

pub remove-requires-clause-held : goal.remove-requires-clause-held
remove-requires-clause-held g c =
    let p = c.self.inside in
    let told_ = ap (λ (w : Waits). w.rows) c.self.view_is in
    let held_ = entry-here p.queues.items p.rows.items c.args.self.now c.args.row told_ c.index.result.now c.in-Some.entry c.requires c.index.ensures c.in-Some.is in
    let within = placed-held (length p.queues.items) p.rows.items c.args.row c.in-Some.entry c.self.invariant.1 held_ in
    wait-row-held p.queues.items p.rows.items p.heaps.items p.places.items c.self.invariant.1 c.self.invariant.2 c.self.invariant.3 c.in-Some.entry c.index_mut.result.now c.deref_mut.result.now within c.index_mut.ensures.value c.deref_mut.ensures.value
    c.args.row held_

pub remove-requires-clause-kept : goal.remove-requires-clause-kept
remove-requires-clause-kept g c =
    let p = c.self.inside in
    let told_ = ap (λ (w : Waits). w.rows) c.self.view_is in
    let held_ = entry-here p.queues.items p.rows.items c.args.self.now c.args.row told_ c.index.result.now c.in-Some.entry c.requires c.index.ensures c.in-Some.is in
    let within = placed-held (length p.queues.items) p.rows.items c.args.row c.in-Some.entry c.self.invariant.1 held_ in
    wait-kept p.queues.items p.rows.items p.heaps.items p.places.items c.self.invariant.1 c.self.invariant.2 c.self.invariant.3 c.in-Some.entry c.index_mut.result.now c.deref_mut.result.now within c.index_mut.ensures.value c.deref_mut.ensures.value

pub index_mut-requires-2 : goal.index_mut-requires-2
index_mut-requires-2 g c =
    let p = c.self.inside in
    let within = entry-within p.queues.items p.rows.items c.args.self.now c.args.row (ap (λ (w : Waits). w.rows) c.self.view_is) c.requires in
    omega arith

pub invariant_of-self : goal.invariant_of-self
invariant_of-self g c =
    let p = c.self.inside in
    let told_ = ap (λ (w : Waits). w.rows) c.self.view_is in
    let held_ = entry-here p.queues.items p.rows.items c.args.self.now c.args.row told_ c.index.result.now c.in-Some.entry c.requires c.index.ensures c.in-Some.is in
    let within = placed-held (length p.queues.items) p.rows.items c.args.row c.in-Some.entry c.self.invariant.1 held_ in
    let long : length c.remove.new.places ≡ length c.deref_mut.result.now = omega (arith, c.remove.auto.places) in
    let queued = wait-removed p.queues.items p.rows.items p.heaps.items p.places.items c.self.invariant.1 c.self.invariant.2 c.self.invariant.3 c.in-Some.entry c.index_mut.result.now c.deref_mut.result.now within c.index_mut.ensures.value
    c.deref_mut.ensures.value c.remove.new.heap c.remove.new.places c.args.row held_ c.remove.ensures.taken c.remove.ensures.kept c.remove.ensures.less long in
    let small = c.self.invariant.0 in (
      omega (arith, length-set p.rows.items c.args.row None),
      placed-clear (length p.queues.items) p.rows.items c.args.row c.self.invariant.1,
      subst (λ (l : List ℕ). AreQueued (slice_set p.rows.items c.args.row None) (slice_set p.heaps.items c.in-Some.entry.queue c.remove.new.heap) l)
          (sym (written c.remove.new.places p.places.items p.places.len (long ∙ c.deref_mut.ensures.len))) queued,
      wait-memory p.queues.items p.rows.items p.heaps.items p.places.items c.self.invariant.1 c.self.invariant.2 c.self.invariant.3 c.in-Some.entry c.index_mut.result.now c.deref_mut.result.now within c.index_mut.ensures.value c.deref_mut.ensures.value
          c.remove.new.heap c.remove.ensures.room,
      c.self.invariant.4,
    )

pub returns-clause-rows : goal.returns-clause-rows
returns-clause-rows g c =
    let queues = c.self.inside.queues.items in
    let rows = c.self.inside.rows.items in
    waits-same queues c.args.self.now.queues (told_rows queues (slice_set rows c.args.row None)) (slice_set c.args.self.now.rows c.args.row None)
    (ap (λ (w : Waits). w.queues) c.self.view_is)
    (told-clear queues rows c.args.self.now c.args.row (ap (λ (w : Waits). w.rows) c.self.view_is))

pub returns-clause-steps : goal.returns-clause-steps
returns-clause-steps g c =
    let p = c.self.inside in
    let told_ = ap (λ (w : Waits). w.rows) c.self.view_is in
    let held_ = entry-here p.queues.items p.rows.items c.args.self.now c.args.row told_ c.index.result.now c.in-Some.entry c.requires c.index.ensures c.in-Some.is in
    let within = placed-held (length p.queues.items) p.rows.items c.args.row c.in-Some.entry c.self.invariant.1 held_ in
    wait-few p.queues.items p.rows.items p.heaps.items p.places.items c.self.invariant.1 c.self.invariant.2 c.self.invariant.3 c.in-Some.entry c.index_mut.result.now c.deref_mut.result.now within c.index_mut.ensures.value c.deref_mut.ensures.value
    _ c.args.self.now c.args.steps.now c.remove.new.steps told_ (entry-queue p.queues.items p.rows.items c.args.self.now c.args.row told_ c.in-Some.entry held_) c.remove.ensures.steps
