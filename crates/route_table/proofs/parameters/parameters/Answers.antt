use Rattle.std.proofs.Common.{refl, ◌∙◌, arith}
use Rattle.route_table.proofs.PickLemmas.{picked_on, picked_end}
use Rattle.route_table.proofs.parameters.parameters.Goals as goal

pub loop-place-preserved : goal.loop-place-preserved
loop-place-preserved c =
    c.in_ok-add.ensures
    ∙ picked_on (λ part. part.now) c.in_ok-pieces.pieces.items c.in_ok-parts.parts.items _ c.loop-place.place c.index.result.now c.index-in-loop-place.result.now
    (omega (arith, c.loop-place-test.true, c.min-place-end.ensures, c.len.ensures, c.in_ok-pieces.pieces.ok.0))
    (omega (arith, c.loop-place-test.true, c.min-place-end.ensures, c.len-2.ensures, c.in_ok-parts.parts.ok.0))
    c.index.ensures c.index-in-loop-place.ensures c.loop-place.invariant

pub returns : goal.returns
returns c =
    c.loop-place.invariant
    ∙ picked_end (λ part. part.now) c.in_ok-pieces.pieces.items c.in_ok-parts.parts.items c.loop-place.place
    (omega (arith, c.loop-place-test.false, c.min-place-end.ensures, c.len.ensures, c.len-2.ensures, c.in_ok-pieces.pieces.ok.0, c.in_ok-parts.parts.ok.0))
    ∙ rw (c.in_ok-pieces.ensures, c.in_ok-parts.ensures, c.as_bytes.ensures.value) refl
