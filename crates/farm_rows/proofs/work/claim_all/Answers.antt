use Rattle.std.proofs.Common.{rules, arith}
use Rattle.std.proofs.lemmas.Grind.{common_steps}
use Rattle.farm_rows.proofs.work.claim_all.Goals as goal

pub loop-name-preserved : goal.loop-name-preserved
loop-name-preserved c = record {
  left = first_of (search rules, grind (arith, common_steps));
  indexed = c.claim.ensures.index;
  rest = first_of (search rules, grind (arith, common_steps));
}
