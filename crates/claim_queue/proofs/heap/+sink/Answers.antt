use Rattle.std.proofs.Common.{◌≡◌, ◌+◌, sym, ◌∙◌, true, length, arith}
use Rattle.claim_queue.specs.Heaps.{turn_at, comes_before, Follows}
use Rattle.claim_queue.proofs.HeapLemmas.{sunk, in-order, leads-first}
use Rattle.claim_queue.proofs.MoveLemmas.{moved-more}
use Rattle.claim_queue.proofs.StepLemmas.{down-more}
use Rattle.claim_queue.proofs.heap.+sink.Goals as goal

pub sink-requires : goal.sink-requires
sink-requires g t c κs within =
    let heap = c.args.heap.now in
    let below = c.first_below-child.ensures.below in
    let sooner : comes_before (turn_at heap c.first_below-child.result) (turn_at heap c.args.place) ≡ true = sym c.comes_before.ensures.first ∙ c.if-comes_before.true in
    let moved = c.exchange.ensures.moved in (
      omega (arith, moved.long),
      (
        within,
        (
          omega (arith, moved.long),
          (
            sunk heap c.exchange.new.heap c.args.place c.first_below-child.result moved.long c.exchange.ensures.exchanged c.requires.ordered.0 c.requires.ordered.1 below.0 below.1 c.first_below-child.ensures.first sooner,
            moved.known,
          ),
        ),
      ),
    )

pub returns-then-comes_before-clause-moved : goal.returns-then-comes_before-clause-moved
returns-then-comes_before-clause-moved g t c =
    moved-more c.args.heap.now c.exchange.new.heap c.sink.new.heap c.args.places.now c.exchange.new.places c.sink.new.places c.exchange.ensures.moved c.sink.ensures.moved

pub returns-then-comes_before-clause-steps : goal.returns-then-comes_before-clause-steps
returns-then-comes_before-clause-steps g t c =
    let steps = c.sink.ensures.steps in
    let fewer = c.first_below-child.ensures.steps in
    let moved = c.exchange.ensures.moved in
    let count = length c.args.heap.now in (
      steps.0 + 1,
      down-more steps.0 count c.args.place c.first_below-child.result c.first_below-child.ensures.below.0 (omega (arith, steps.1, moved.long)),
      (omega (arith, steps.2.0, fewer.0), omega (arith, steps.2.1, fewer.1)),
    )

pub returns-else-comes_before-clause-ordered : goal.returns-else-comes_before-clause-ordered
returns-else-comes_before-clause-ordered g t c =
    let heap = c.args.heap.now in
    let child = c.first_below-child.result in
    let later : Follows heap c.args.place child = sym c.comes_before.ensures.first ∙ c.if-comes_before.false in
    in-order heap c.args.place c.requires.ordered.0 (leads-first heap c.args.place child c.first_below-child.ensures.first later) c.requires.ordered.1

pub returns-else-comes_before-clause-steps : goal.returns-else-comes_before-clause-steps
returns-else-comes_before-clause-steps g t c =
    let fewer = c.first_below-child.ensures.steps in
    (1, omega arith, (omega (arith, fewer.0), omega (arith, fewer.1)))
