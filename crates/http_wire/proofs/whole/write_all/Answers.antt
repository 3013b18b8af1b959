use Rattle.std.proofs.Common.{◌∙◌}
use Rattle.std.proofs.lemmas.List.{take_rest}
use Rattle.http_wire.proofs.WholeLemmas.{HasWritten-more}
use Rattle.http_wire.proofs.whole.write_all.Goals as goal

pub loop-rest-preserved : goal.loop-rest-preserved
loop-rest-preserved g c =
    let old = c.loop-rest.invariant in (
      rw (take_rest c.loop-rest.rest.now c.in-Ok.count) (HasWritten-more _ _ _ _ _ c.in-Ok.count old.0 c.in-Ok.ensures.bytes),
      c.in-Ok.ensures.cause.kept ∙ old.1,
      c.write.ensures.left ∙ old.2,
      c.write.ensures.read_faults ∙ old.3,
    )
