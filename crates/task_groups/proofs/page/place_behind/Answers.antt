use Rattle.std.proofs.Common.{◌≡◌, ℕ, nat_le, true, false, arith, rules}
use Rattle.std.specs.List.Sorted.{IsNonDecreasingBy, IsPartitionPoint}
use Rattle.std.proofs.lemmas.List.Sorted.{IsPartitionedBy-leb, IsPartitionPoint-from_clause}
use Rattle.task_groups.proofs.PageLemmas.{after-place, rises-fall_not}
use Rattle.task_groups.proofs.page.place_behind.Goals as goal

pub returns-clause-rest : goal.returns-clause-rest
returns-clause-rest c =
    let rows = c.args.rows.now in
    let at = c.partition_point.result in
    let sorted : IsNonDecreasingBy (λ (y : ℕ). y) rows = rises-fall_not rows c.requires in
    let point : IsPartitionPoint (λ (y : ℕ). nat_le y c.args.token ≡ true) (λ (y : ℕ). nat_le y c.args.token ≡ false) rows at =
    IsPartitionPoint-from_clause (λ (y : ℕ). nat_le y c.args.token) rows at c.partition_point.ensures.partitioned (IsPartitionedBy-leb (λ (y : ℕ). y) rows c.args.token sorted) (search rules) in
    after-place c.args.token rows at c.partition_point.ensures.bound (λ k d below. point.0 k d (omega arith) below) (λ k d from inside. point.1 k d from inside)
