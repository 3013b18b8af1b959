use Rattle.std.proofs.Common.{◌≡◌, ◌-◌, length, drop, replicate}
use Rattle.task_index.specs.Changes.{claim_of, all_claimed}
use Rattle.task_index.specs.Indexed.{IsIndexOf}
use Rattle.farm_rows.proofs.work.claim_all.Given as goal

-- there is a claim for each run that is left, and to take those makes the whole; what is kept beside the tasks is right
abbrev pub invariant-loop-name : goal.invariant-loop-name
invariant-loop-name l = record {
  left : l.claims.items ≡ replicate (length l.names - l.name-index) (claim_of l.fn.at l.taken);
  indexed : IsIndexOf l.index l.rows;
  rest : all_claimed (claim_of l.fn.at l.taken) (drop l.name-index l.names) l.rows ≡ all_claimed (claim_of l.fn.at l.taken) l.names l.fn.rows;
}
