use Rattle.std.proofs.Common.{refl, ◌∙◌, arith}
use Rattle.route_table.proofs.MaskLemmas.{masked_more, masked_end}
use Rattle.route_table.proofs.table.masked.Goals as goal

pub loop-b-preserved : goal.loop-b-preserved
loop-b-preserved c =
    c.in_ok-push.ensures.bytes
    ∙ rw (c.from.ensures, c.ascii.ensures) (masked_more c.args.path.now _ c.loop-b.b-index _ (omega (arith, c.loop-b-test.true)) refl c.loop-b.invariant)

pub returns : goal.returns
returns c = masked_end c.args.path.now _ c.loop-b.b-index (omega (arith, c.loop-b-test.false, c.loop-b.auto.b-index-end)) c.loop-b.invariant
