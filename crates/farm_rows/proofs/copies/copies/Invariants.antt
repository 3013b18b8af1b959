use Rattle.std.proofs.Common.{◌≡◌, replicate}
use Rattle.task_index.specs.Changes.{claim_of}
use Rattle.farm_rows.proofs.copies.copies.Given as goal

abbrev pub invariant-loop-made : goal.invariant-loop-made
invariant-loop-made l = l.claims.items ≡ replicate l.made (claim_of l.at l.claim)
