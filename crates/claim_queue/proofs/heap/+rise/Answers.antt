use Rattle.std.proofs.Common.{◌≡◌, ◌+◌, ◌-◌, ◌/◌, sym, ◌∙◌, true, arith}
use Rattle.claim_queue.specs.Heaps.{IsBelow, turn_at, comes_before}
use Rattle.claim_queue.proofs.HeapLemmas.{risen}
use Rattle.claim_queue.proofs.MoveLemmas.{moved-more}
use Rattle.claim_queue.proofs.StepLemmas.{up-more}
use Rattle.claim_queue.proofs.heap.+rise.Goals as goal

pub rise-requires : goal.rise-requires
rise-requires g t c κs within =
    let heap = c.args.heap.now in
    let parent = (c.args.place - 1) / 2 in
    let below : IsBelow parent c.args.place = (omega arith, omega arith) in
    let first : comes_before (turn_at heap c.args.place) (turn_at heap parent) ≡ true = sym c.comes_before.ensures.first ∙ c.if-comes_before.true in
    let moved = c.exchange.ensures.moved in (
      omega arith,
      (
        within,
        (
          omega (arith, moved.long),
          (
            risen heap c.exchange.new.heap c.args.place parent moved.long c.exchange.ensures.exchanged c.requires.ordered.0 below c.requires.within first,
            moved.known,
          ),
        ),
      ),
    )

pub returns-then-comes_before-clause-moved : goal.returns-then-comes_before-clause-moved
returns-then-comes_before-clause-moved g t c =
    moved-more c.args.heap.now c.exchange.new.heap c.rise.new.heap c.args.places.now c.exchange.new.places c.rise.new.places c.exchange.ensures.moved c.rise.ensures.moved

pub returns-then-comes_before-clause-steps : goal.returns-then-comes_before-clause-steps
returns-then-comes_before-clause-steps g t c =
    let steps = c.rise.ensures.steps in
    let parent = (c.args.place - 1) / 2 in
    let below : IsBelow parent c.args.place = (omega arith, omega arith) in
    (steps.0 + 1, up-more steps.0 c.args.place parent below steps.1, (omega (arith, steps.2.0, steps.2.1), omega (arith, steps.2.0, steps.2.1)))
