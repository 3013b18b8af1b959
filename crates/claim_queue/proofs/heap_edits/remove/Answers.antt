use Rattle.std.proofs.Common.{◌≡◌, ◌+◌, ◌^◌, ◌≤◌, ◌++◌, List, ◌∙◌, refl, sym, ap, subst, length, take, drop, slice_index, rules, arith}
use Rattle.claim_queue.specs.declared.turns.Turn.{Turn}
use Rattle.claim_queue.specs.Heaps.{IsOrderedBut, KnowsPlaces, IsKept, IsTaken, AreMoved}
use Rattle.claim_queue.proofs.EditLemmas.{pop-leaves, taken-moved, few-settled, written}
use Rattle.claim_queue.proofs.heap_edits.remove.Goals as goal

pub settle-requires-clause-ordered : goal.settle-requires-clause-ordered
settle-requires-clause-ordered g c = subst (λ (l : List Turn). IsOrderedBut (slice_index c.args.places.now c.args.row) l) (sym c.deref_mut.ensures.value) c.put_last.ensures.ordered

pub settle-requires-clause-known : goal.settle-requires-clause-known
settle-requires-clause-known g c = subst (λ (l : List Turn). KnowsPlaces l c.put_last.new.places) (sym c.deref_mut.ensures.value) c.put_last.ensures.known

pub returns-clause-kept : goal.returns-clause-kept
returns-clause-kept g c =
    let later = c.settle.new.heap in
    let is : take c.put_last.new.heap.len (later ++ drop (length later) c.put_last.new.heap.items) ≡ later =
    written later c.put_last.new.heap.items c.put_last.new.heap.len (c.settle.ensures.moved.long ∙ c.deref_mut.ensures.len) in
    subst (λ (l : List Turn). IsKept l c.settle.new.places) (sym is) (c.settle.ensures.ordered, c.settle.ensures.moved.known)

pub returns-clause-taken : goal.returns-clause-taken
returns-clause-taken g c =
    let heap = c.args.heap.now.items in
    let later = c.settle.new.heap in
    let is : take c.put_last.new.heap.len (later ++ drop (length later) c.put_last.new.heap.items) ≡ later =
    written later c.put_last.new.heap.items c.put_last.new.heap.len (c.settle.ensures.moved.long ∙ c.deref_mut.ensures.len) in
    let moved : AreMoved c.put_last.new.heap.items later c.put_last.new.places c.settle.new.places =
    subst (λ (l : List Turn). AreMoved l later c.put_last.new.places c.settle.new.places) c.deref_mut.ensures.value c.settle.ensures.moved in
    let taken : IsTaken c.args.row heap c.put_last.new.heap.items c.args.places.now c.put_last.new.places =
    subst (λ n. IsTaken n heap c.put_last.new.heap.items c.args.places.now c.put_last.new.places) c.requires.held.2 c.put_last.ensures.taken in
    subst (λ (l : List Turn). IsTaken c.args.row heap l c.args.places.now c.settle.new.places) (sym is)
    (taken-moved heap c.put_last.new.heap.items later c.args.places.now c.put_last.new.places c.settle.new.places c.args.row taken moved)

pub returns-clause-steps : goal.returns-clause-steps
returns-clause-steps g c =
    let steps = c.settle.ensures.steps in
    let heap = c.args.heap.now.items in
    let less = c.put_last.ensures.less in
    let shorter : length c.deref_mut.result.now ≡ length c.put_last.new.heap.items = ap length c.deref_mut.ensures.value in
    let levels : 2 ^ steps.0 ≤ length heap = omega (arith, steps.1) in
    few-settled steps.0 (length heap) c.args.steps.now c.settle.new.steps levels (omega (arith, steps.2.0, c.put_last.ensures.step), omega (arith, steps.2.1, c.put_last.ensures.step))

pub returns-then-place-last-clause-kept : goal.returns-then-place-last-clause-kept
returns-then-place-last-clause-kept g c =
    let heap = c.args.heap.now in
    let place = slice_index c.args.places.now c.args.row in
    let long : heap.len ≡ length heap.items = search rules in
    let within = c.requires.held.1 in
    let is : place + 1 ≡ heap.len = omega (arith, c.if-place-last.true, c.len-last.ensures) in
    (pop-leaves heap.items c.pop.new.self.items c.args.places.now c.args.row place heap.len c.requires.kept c.requires.held refl is long c.pop.ensures.rest).0

pub returns-then-place-last-clause-taken : goal.returns-then-place-last-clause-taken
returns-then-place-last-clause-taken g c =
    let heap = c.args.heap.now in
    let place = slice_index c.args.places.now c.args.row in
    let long : heap.len ≡ length heap.items = search rules in
    let within = c.requires.held.1 in
    let is : place + 1 ≡ heap.len = omega (arith, c.if-place-last.true, c.len-last.ensures) in
    (pop-leaves heap.items c.pop.new.self.items c.args.places.now c.args.row place heap.len c.requires.kept c.requires.held refl is long c.pop.ensures.rest).1

pub returns-then-place-last-clause-steps : goal.returns-then-place-last-clause-steps
returns-then-place-last-clause-steps g c = (0, omega arith, (omega arith, omega arith))
