use Rattle.std.proofs.Common.{length, ap, arith}
use Rattle.http_wire.proofs.WholeLemmas.{LosesWithin-held}
use Rattle.http_wire.proofs.whole.read_all.Goals as goal

pub returns-in-Err-ReadFault-clause-lost : goal.returns-in-Err-ReadFault-clause-lost
returns-in-Err-ReadFault-clause-lost g c =
    LosesWithin-held _ _ _ _ _ _ c.loop-bytes.invariant.kept c.fill.ensures.kept (omega (arith, c.fill.new.held.ok.0, c.loop-bytes.bytes.ok.0, ap length c.in-Err-ReadFault.ensures.same))

pub returns-in-Err-clause-lost : goal.returns-in-Err-clause-lost
returns-in-Err-clause-lost g c =
    LosesWithin-held _ _ _ _ _ _ c.loop-bytes.invariant.kept c.fill.ensures.kept (omega (arith, c.fill.new.held.ok.0, c.loop-bytes.bytes.ok.0, ap length c.in-Err.ensures.same))
