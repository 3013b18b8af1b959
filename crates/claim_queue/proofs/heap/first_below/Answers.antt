use Rattle.std.proofs.Common.{refl, sym, ◌∙◌}
use Rattle.claim_queue.proofs.HeapLemmas.{right-first, left-first, left-only}
use Rattle.claim_queue.proofs.heap.first_below.Goals as goal
use Rattle.claim_queue.proofs.heap.first_below.Goals.{else-right-heap-via-then-right-heap+else-comes_before, else-right-heap-via-else-right-heap}

pub returns-then-comes_before-clause-first : goal.returns-then-comes_before-clause-first
returns-then-comes_before-clause-first g c = λ other below lt. right-first c.args.heap.now c.args.place _ _ refl refl (sym c.comes_before.ensures.first ∙ c.if-comes_before.true) other below

pub returns-else-right-heap-clause-first : goal.returns-else-right-heap-clause-first
returns-else-right-heap-clause-first g c = λ other below lt.
    elim c.else-right-heap.branch [
      | else-right-heap-via-then-right-heap+else-comes_before w ↦ left-first c.args.heap.now c.args.place _ _ refl refl (sym w.comes_before.ensures.first ∙ w.if-comes_before.false) other below
      | else-right-heap-via-else-right-heap w ↦ left-only c.args.heap.now c.args.place _ _ refl refl w.if-right-heap.false other below lt
    ]
