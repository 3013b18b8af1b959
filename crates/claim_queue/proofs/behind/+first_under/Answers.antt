use Rattle.std.proofs.Common.{◌≡◌, ◌∷◌, ◌++◌, [], false, refl, sym, ◌∙◌, subst, Option, arith}
use Rattle.claim_queue.specs.declared.turns.Turn.{Turn}
use Rattle.claim_queue.specs.Heaps.{turn_at}
use Rattle.claim_queue.specs.Behind.{is_behind, IsFirstUnder}
use Rattle.claim_queue.proofs.BehindLemmas.{none-under, top-under, below-under}
use Rattle.claim_queue.proofs.GivenLemmas.{given-none, given-more, length-both}
use Rattle.claim_queue.proofs.behind.+first_under.Goals as goal

pub returns-then-place-heap-clause-first : goal.returns-then-place-heap-clause-first
returns-then-place-heap-clause-first g t c = none-under c.args.heap.now c.args.place c.args.last c.if-place-heap.true

pub returns-then-place-heap-clause-steps : goal.returns-then-place-heap-clause-steps
returns-then-place-heap-clause-steps g t c = ([], given-none c.args.heap.now c.args.place _ _ c.args.last refl refl, (omega arith, omega arith))

pub returns-then-is_behind-clause-first : goal.returns-then-is_behind-clause-first
returns-then-is_behind-clause-first g t c =
    top-under c.args.heap.now c.args.place c.args.last (turn_at c.args.heap.now c.args.place) c.requires c.if-place-heap.false refl (sym c.is_behind.ensures.behind ∙ c.if-is_behind.true)

pub returns-then-is_behind-clause-steps : goal.returns-then-is_behind-clause-steps
returns-then-is_behind-clause-steps g t c =
    let one = c.is_behind.ensures.steps in
    ([], given-none c.args.heap.now c.args.place _ _ c.args.last refl refl, (omega (arith, one.0), omega (arith, one.1)))

pub returns-clause-first : goal.returns-clause-first
returns-clause-first g t c =
    let heap = c.args.heap.now in
    let given : is_behind c.args.last (turn_at heap c.args.place) ≡ false = sym c.is_behind.ensures.behind ∙ c.if-is_behind.false in
    subst (λ (first : Option Turn). IsFirstUnder c.args.place heap c.args.last first) (sym c.earlier.ensures.earlier)
    (below-under heap c.args.place c.args.last _ _ c.first_under-left.result c.first_under-right.result refl refl given c.first_under-left.ensures.first c.first_under-right.ensures.first)

pub returns-clause-steps : goal.returns-clause-steps
returns-clause-steps g t c =
    let heap = c.args.heap.now in
    let given : is_behind c.args.last (turn_at heap c.args.place) ≡ false = sym c.is_behind.ensures.behind ∙ c.if-is_behind.false in
    let one = c.is_behind.ensures.steps in
    let left = c.first_under-left.ensures.steps in
    let right = c.first_under-right.ensures.steps in
    let two = c.earlier.ensures.steps in
    let long = length-both left.0 right.0 in (
      c.args.place ∷ (left.0 ++ right.0),
      given-more heap c.args.place _ _ c.args.last refl refl left.0 right.0 c.if-place-heap.false given left.1 right.1,
      (omega (arith, one.0, left.2.0, right.2.0, two.0), omega (arith, one.1, left.2.1, right.2.1, two.1, long)),
    )
